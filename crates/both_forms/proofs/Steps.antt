-- A step: its rule, the marking after, a step of one mode; and laws for a loop that sums one member after another.
use Prim.Native.Nat.{ℕ, zero, suc, ◌+◌, ◌*◌, ◌≤◌, ◌<◌}
use mathlib.Core.Path.{◌≡◌, refl, sym, ◌∙◌, ap, fun_ext}
use mathlib.Core.Bool.{Bool, true, false}
use mathlib.Core.List.{List, [], ◌∷◌, map}
use mathlib.Core.Logic.{◌↔◌, ◌⊎◌, inl, inr, ⊎_elim}
use mathlib.Core.Option.{none}
use lib.Dec.{eqb, ltb}
use lib.ListN.{length, take, get_or}
use borrow.Author.Tests.{eqb-false, ne_eqb, ltb-false, le-ltb, leb-false}
use native.Mathlib.Omega.{arith}
use Rattle.model.specs.declared.CapacityRule.TheVariants.{Weak}
use Rattle.model.specs.declared.Mode.{Mode}
use Rattle.model.specs.declared.Thing.TheVariants.{Argument}
use Rattle.model.specs.First.{◌▸◌, first}
use Rattle.model.specs.Numbers.{ℕ∞, fin, ∞, ◌≤∞◌, Above, above, least_of, least_of_all, limit}
use Rattle.model.specs.Rows.{Entry, no_arc, Row, Counts}
use Rattle.model.specs.Nets.{PNet, total, pairs, modes, mode_no, K, count, row}
use Rattle.second_form.specs.Dead.{is_dead}
use Rattle.model.specs.WellFormed.{WellFormed}
use Rattle.model.specs.Firing.{after, rooms, mode_refusal, fired}
use Rattle.both_forms.specs.Steps.{beside, together, step_refusal, fired_together, StepRule, StepAfter, StepOfOne, StepMembers}
use Rattle.model.proofs.First.{below_or, left-none, right-none, none_then, first-each, first-all, only_if_none}
use Rattle.model.proofs.Both.{or_neither}
use Rattle.movement.proofs.Each.{Each, each_at, at_each}
use Rattle.model.proofs.Numbers.{above_true, above_false, not_above, below-least-of, least_assoc, least-none}
use Rattle.model.proofs.Decisions.{Decided}
use Rattle.model.proofs.Firing.{Passes, row-passes, mode-there}
use Rattle.movement.proofs.Markings.{row-fired-at, row-fired-length}
use Rattle.second_form.proofs.ComplementNet.{row_small}
use Rattle.second_form.proofs.Possible.{Fits, fits-live}

abbrev pub There : PNet → List Mode → Type 0
There net ts = Each (λ t. t.0 < modes net) ts

-- the parts of a step's test
pub record Accepts (net : PNet) (ts : List Mode) (m : List ℕ) : Type 0 where
  pub some-mode : 1 ≤ length ts
  pub few : length ts ≤ 64
  pub there : There net ts
  pub passes : Passes (pairs net) (rooms net (together net ts)) (together net ts) (count m)

module _ (net : PNet) (ts : List Mode) (m : List ℕ) where
  pub step-accepted : step_refusal net ts m ≡ none → Accepts net ts m
  unfolding step_refusal
  step-accepted e =
      let counted = or_neither (eqb (length ts) 0) (ltb 64 (length ts)) (only_if_none _ _ (left-none _ _ e)) in
      let some = eqb-false (length ts) 0 counted.0 in
      let later = right-none _ _ e in
      record {
        some-mode = omega arith;
        few = ltb-false 64 (length ts) counted.1;
        there =
            at_each (λ t. t.0 < modes net) (mode_no 0) ts
            (λ i h. leb-false (modes net) (get_or ts i (mode_no 0)).0 (only_if_none _ _ (first-each (length ts) _ (left-none _ _ later) i h)));
        passes = (row-passes Argument (pairs net) _ (together net ts) (count m)).0 (right-none _ _ later);
      }

  pub accepted-step : Accepts net ts m → step_refusal net ts m ≡ none
  unfolding step_refusal
  accepted-step a =
      none_then (rw (ne_eqb (length ts) 0 (λ e. omega (arith, a.some-mode)), le-ltb 64 (length ts) a.few))
      (none_then
      (first-all (length ts) _
      (λ i h. mode-there Argument (modes net) (get_or ts i (mode_no 0)) (each_at (λ t. t.0 < modes net) (mode_no 0) ts a.there i h)))
      ((row-passes Argument (pairs net) _ (together net ts) (count m)).1 a.passes))

  pub step-fired-at : (p : ℕ) → p < pairs net → count (fired_together net ts m) p ≡ after (together net ts p) (count m p)
  unfolding fired_together
  step-fired-at = row-fired-at (pairs net) (together net ts) m

  pub step-fired-length : length (fired_together net ts m) ≡ pairs net
  unfolding fired_together
  step-fired-length = row-fired-length (pairs net) (together net ts) m

-- what is summed of the members is the sum of theirs
sum_is : (net : PNet) (p : ℕ) (f : Entry → ℕ) → f no_arc ≡ 0 → ((a b : Entry) → f (beside a b) ≡ f a + f b) → (ts : List Mode)
    → f (together net ts p) ≡ total (map (λ t. f (row net t p)) ts)
unfolding together
sum_is net p f start more [] = start
sum_is net p f start more (t ∷ ts) = more (row net t p) (together net ts p) ∙ ap (λ n. f (row net t p) + n) (sum_is net p f start more ts)

pub pre_is : (net : PNet) (p : ℕ) (ts : List Mode) → (together net ts p).pre ≡ total (map (λ t. (row net t p).pre) ts)
pre_is net p = sum_is net p (λ e. e.pre) refl (λ a b. omega arith)

pub post_is : (net : PNet) (p : ℕ) (ts : List Mode) → (together net ts p).post ≡ total (map (λ t. (row net t p).post) ts)
post_is net p = sum_is net p (λ e. e.post) refl (λ a b. omega arith)

pub low-is : (net : PNet) (p : ℕ) (ts : List Mode) → (together net ts p).inhibitor ≡ least_of_all (map (λ t. (row net t p).inhibitor) ts)
unfolding together least_of_all
low-is net p [] = refl
low-is net p (t ∷ ts) = ap (least_of (row net t p).inhibitor) (low-is net p ts)

-- at most the least I is at most each
low-each : (net : PNet) (p m : ℕ) (ts : List Mode) → (m ≤∞ (together net ts p).inhibitor) ↔ Each (λ t. m ≤∞ (row net t p).inhibitor) ts
unfolding together
low-each net p m [] = (λ h. tt, λ h. tt)
low-each net p m (t ∷ ts) =
    let least = below-least-of m (row net t p).inhibitor (together net ts p).inhibitor in
    let later = low-each net p m ts in
    (λ h. ((least.0 h).0, later.0 (least.0 h).1), λ h. least.1 (h.0, later.1 h.1))

-- above the least I is above some member's
above-least-of : (m : ℕ) (a b : ℕ∞) → Above m (least_of a b) → Above m a ⊎ Above m b
above-least-of m (fin k) (fin n) h = ⊎_elim inl (λ (l : m ≤ k). inr (omega arith)) (below_or k m)
above-least-of m ∞ (fin n) h = inr h
above-least-of m a ∞ h = inl h

abbrev pub SomeBelow : PNet → List Mode → ℕ → ℕ → Type 0
SomeBelow net ts p m = (i : ℕ) × (i < length ts) × Above m (row net (get_or ts i (mode_no 0)) p).inhibitor

above-some : (net : PNet) (p m : ℕ) (ts : List Mode) → Above m (together net ts p).inhibitor → SomeBelow net ts p m
unfolding together
above-some net p m [] h = absurd h
above-some net p m (t ∷ ts) h =
    ⊎_elim (λ a. (0, omega arith, a)) (λ a. let r = above-some net p m ts a in (suc r.0, omega (arith, r.1), r.2))
    (above-least-of m (row net t p).inhibitor (together net ts p).inhibitor h)

pub by-some : (net : PNet) (p m : ℕ) (ts : List Mode) → Decided (above m (together net ts p).inhibitor) (SomeBelow net ts p m)
by-some net p m ts =
    let low = (together net ts p).inhibitor in
    record { sound = λ e. above-some net p m ts (above_true m low e); complete = λ s. go s (above m low) refl }
  where
    go : SomeBelow net ts p m → (t : Bool) → above m (together net ts p).inhibitor ≡ t → above m (together net ts p).inhibitor ≡ true
    go s true e = e
    go s false e =
        let each = (low-each net p m ts).0 (above_false m (together net ts p).inhibitor e) in
        absurd
        (not_above m (row net (get_or ts s.0 (mode_no 0)) p).inhibitor (each_at (λ t. m ≤∞ (row net t p).inhibitor) (mode_no 0) ts each s.0 s.1)
        s.2)

pub step-rule : StepRule
step-rule net ts m = (
  λ e.
      let a = step-accepted net ts m e in (
        a.some-mode,
        a.few,
        each_at (λ t. t.0 < modes net) (mode_no 0) ts a.there,
        record {
          enough = λ p h. rw (← pre_is net p ts) (a.passes.enough p h);
          room = λ p h. rw (← post_is net p ts, ← pre_is net p ts) (a.passes.room p h);
          uninhibited = λ p h. each_at (λ t. count m p ≤∞ (row net t p).inhibitor) (mode_no 0) ts ((low-each net p (count m p) ts).0 (a.passes.low p h));
        },
        λ p h. rw (step-fired-at net ts m p h) (a.passes.small p h),
      ),
  λ r.
      accepted-step net ts m
      (record {
        some-mode = r.0;
        few = r.1;
        there = at_each (λ t. t.0 < modes net) (mode_no 0) ts r.2;
        passes =
            record {
              enough = λ p h. rw (pre_is net p ts) (r.3.enough p h);
              room = λ p h. rw (post_is net p ts, pre_is net p ts) (r.3.room p h);
              low = λ p h. (low-each net p (count m p) ts).1 (at_each (λ t. count m p ≤∞ (row net t p).inhibitor) (mode_no 0) ts (r.3.uninhibited p h));
              small = λ p h. rw (← step-fired-at net ts m p h) (r.4 p h);
            };
      }),
)

pub step_after_lem : StepAfter
step_after_lem net ts m e = (
  λ p h. rw (step-fired-at net ts m p h) (omega (arith, (step-accepted net ts m e).passes.enough p h)),
  step-fired-length net ts m,
)

-- a member has no more Pre and Post than the step, and no lower I: what fits the step shows it alive
live-each : (net : PNet) (r : Row) (M : Counts) → Fits net r M → (ts : List Mode)
    → ((p : ℕ) → ((together net ts p).pre ≤ (r p).pre) × ((together net ts p).post ≤ (r p).post))
    → ((p : ℕ) → p < pairs net → M p ≤∞ (together net ts p).inhibitor) → Each (λ t. is_dead net t ≡ false) ts
unfolding together
live-each net r M fits [] part low = tt
live-each net r M fits (t ∷ ts) part low =
    let least : (p : ℕ) → p < pairs net → (M p ≤∞ (row net t p).inhibitor) × (M p ≤∞ (together net ts p).inhibitor) =
    λ p h. (below-least-of (M p) (row net t p).inhibitor (together net ts p).inhibitor).0 (low p h) in (
      fits-live net t r M fits (λ p. omega (arith, part p)) (λ p h. (least p h).0),
      live-each net r M fits ts (λ p. omega (arith, part p)) (λ p h. (least p h).1),
    )

pub members_live : (net : PNet) (ts : List Mode) (m : List ℕ) → (net.rule ≡ Weak → (p : ℕ) → p < pairs net → count m p ≤∞ K net p) → Accepts net ts m
    → Each (λ t. is_dead net t ≡ false) ts
members_live net ts m within a =
    live-each net (together net ts) (count m) (record { within = within; enough = a.passes.enough; room = a.passes.room }) ts (λ p. omega arith)
    a.passes.low

pub step_members_lem : StepMembers
step_members_lem net ts m marking e =
    each_at (λ t. is_dead net t ≡ false) (mode_no 0) ts (members_live net ts m (λ weak. (marking weak).within) (step-accepted net ts m e))

-- a step of one mode
pub entry-is : {a b : Entry} → a.pre ≡ b.pre → a.post ≡ b.post → a.inhibitor ≡ b.inhibitor → a ≡ b
entry-is pre post low = λ j. record { pre = pre j; post = post j; inhibitor = low j }

pub alone : (e : Entry) → beside e no_arc ≡ e
alone e = entry-is (omega arith) (omega arith) refl

together-one : (net : PNet) (t : Mode) → together net (t ∷ []) ≡ row net t
unfolding together
together-one net t = fun_ext (λ p. alone (row net t p))

pub step-of-one : StepOfOne
unfolding step_refusal mode_refusal fired_together fired first ◌▸◌
step-of-one net t m = (rw (together-one net t), rw (together-one net t))

-- one member more
first_member : (e : Entry) → beside no_arc e ≡ e
first_member e = entry-is (omega arith) (omega arith) (least-none e.inhibitor)

beside_assoc : (a b c : Entry) → beside a (beside b c) ≡ beside (beside a b) c
beside_assoc a b c = entry-is (omega arith) (omega arith) (least_assoc a.inhibitor b.inhibitor c.inhibitor)

pub together-next : (net : PNet) (p i : ℕ) (ts : List Mode) → i < length ts
    → together net (take (suc i) ts) p ≡ beside (together net (take i ts) p) (row net (get_or ts i (mode_no 0)) p)
unfolding together
together-next net p i [] h = absurd (omega arith)
together-next net p zero (t ∷ ts) h = alone (row net t p) ∙ sym (first_member (row net t p))
together-next net p (suc i) (t ∷ ts) h =
    ap (beside (row net t p)) (together-next net p i ts (omega arith))
    ∙ beside_assoc (row net t p) (together net (take i ts) p) (row net (get_or ts i (mode_no 0)) p)

-- sums of numbers of a sheet
pub together-small : (net : PNet) → WellFormed net → (ts : List Mode) (p : ℕ)
    → ((together net ts p).pre ≤ length ts * limit) × ((together net ts p).post ≤ length ts * limit)
unfolding together
together-small net wf [] p = omega arith
together-small net wf (t ∷ ts) p = omega (arith, row_small net wf t p, together-small net wf ts p)
