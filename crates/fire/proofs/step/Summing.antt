-- The members of a step: met one by one, and added up one by one.
use Prim.Native.Nat.{ℕ, ◌+◌, ◌≤◌, ◌<◌}
use mathlib.Core.Path.{◌≡◌, refl, sym, ◌∙◌, ap}
use mathlib.Core.Bool.{Bool, true, false, ◌||◌, or-true}
use mathlib.Core.List.{List}
use mathlib.Core.Logic.{◌⊎◌, inl, inr}
use lib.Dec.{eqb, ltb}
use lib.ListN.{length, take, get_or, replicate, length-map, length-take, get_or-replicate, get_or-map}
use lib.Seq.{ext_get_or, take_all}
use borrow.Author.Tests.{eq-eqb, ne_eqb, lt-ltb, le-ltb, ltb-false, leb-false}
use native.Mathlib.Omega.{arith}
use native.Mathlib.Numerals.{add-one}
use Rattle.model.specs.declared.Mode.{Mode}
use Rattle.model.specs.declared.Thing.TheVariants.{Argument}
use Rattle.model.specs.declared.Fault.TheVariants.{CountOutside}
use Rattle.model.specs.declared.Refusal.{Refusal}
use Rattle.model.specs.Refusals.{Answer}
use Rattle.std.specs.Prelude.{Ok, Err}
use Rattle.model.specs.First.{◌▸◌, first}
use Rattle.model.specs.Refusals.{answer, wrong}
use Rattle.model.specs.Rows.{Row}
use Rattle.model.specs.Nets.{PNet, pairs, mode_no, K, count, row}
use Rattle.model.specs.WellFormed.{WellFormed}
use Rattle.model.specs.Firing.{room_for, fired_row}
use Rattle.both_forms.specs.Steps.{beside, together, step_outside, step_refusal, fired_together}
use Rattle.model.proofs.First.{then_assoc, left-none, right-none, first-each, first_ext, only_if_none}
use Rattle.model.proofs.Both.{or_neither}
use Rattle.model.proofs.Refusals.{answer-passes, answer_fails}
use Rattle.model.proofs.Asking.{no_refusal}
use Rattle.movement.proofs.Markings.{row-fired-at, row-fired-length}
use Rattle.second_form.proofs.CorrespondingMoves.{row_ext}
use Rattle.both_forms.proofs.Steps.{entry-is, together-next, together-small}
use Rattle.opened.specs.declared.shape.NetShape.{NetShape}
use Rattle.fields.specs.Numbers.{unbounded, bound}
use Rattle.fields.proofs.Bounds.{bound-unbounded}
use Rattle.sheets.specs.Decoded.{net_of}
use Rattle.opened.specs.Shape.{Open}
use Rattle.opened.proofs.Shapes.{sizes}
use Rattle.leaving.specs.Leaving.{Leaves}
use Rattle.leaving.proofs.Leaving.{leaves-refused, leaves-written}
use Rattle.fire.specs.step.Calls.{step_modes}
use Rattle.fire.specs.step.Parts.{member_absent, members_refusal, Members, sums_refusal}
use Rattle.fire.specs.declared.step.tables.Sums.{Sums}
use Rattle.fire.specs.step.Tabled.{Tabled}
use Rattle.fire.specs.step.Sums.{sums_at, Below, AddedRow, SumsAre, refusal_of}

-- 4, tested by the length alone
abbrev outside : List ℕ → Bool
outside ms = eqb (length (step_modes ms)) 0 || ltb 64 (length (step_modes ms))

module _ (n : ℕ) (ms : List ℕ) {a : Answer} where
  module _ {empty : Bool} (is : empty ≡ eqb (length ms) 0) where
    pub unfair_step : (empty ≡ true) ⊎ ((empty ≡ false) × (64 < length ms)) → a ≡ Err (wrong Argument (CountOutside 0)) → a ≡ answer (members_refusal n ms)
    unfolding members_refusal
    unfair_step (inl e) q = answer_fails {t = outside ms} _ (rw (length-map ms mode_no, ← is, e)) q
    unfair_step (inr (e, h)) q = answer_fails {t = outside ms} _ (rw (length-map ms mode_no, lt-ltb 64 (length ms) h) (or-true (eqb (length ms) 0))) q

    pub fair_step : empty ≡ false → length ms ≤ 64 → a ≡ answer (first (length ms) (member_absent n ms)) → a ≡ answer (members_refusal n ms)
    unfolding members_refusal
    fair_step e h q = answer-passes {t = outside ms} _ _ (rw (length-map ms mode_no, ← is, e, le-ltb 64 (length ms) h)) q

-- neither 4 nor 6
pub members_met : (n : ℕ) (modes : List ℕ) → Ok tt ≡ answer (members_refusal n modes) → Members n modes
unfolding members_refusal
members_met n modes e =
    let passed = no_refusal _ e in
    let counted = or_neither (eqb (length (step_modes modes)) 0) (ltb 64 (length (step_modes modes))) (only_if_none _ _ (left-none _ _ passed)) in
    record {
      few = rw length-map at (ltb-false 64 (length (step_modes modes)) counted.1);
      each = λ i l. leb-false n (get_or modes i 0) (only_if_none _ _ (first-each (length modes) _ (right-none _ _ passed) i l));
    }

module _ {s : List ℕ} {net : NetShape} (o : Open s net) where
  -- 4 and 6 are met before the sums
  pub step-refusal : (ms m : List ℕ)
      → members_refusal net.modes ms ▸ sums_refusal (net_of s) ms m ≡ step_refusal (net_of s) (step_modes ms) m
  unfolding members_refusal step_refusal sums_refusal refusal_of
  step-refusal ms m =
      then_assoc _ _ _
      ∙ ap (λ x. step_outside (step_modes ms) ▸ x ▸ sums_refusal (net_of s) ms m)
      (rw (length-map ms mode_no, (sizes o).modes) (first_ext (length ms) _ _ (λ i h. rw (get_or-map mode_no ms i 0))))

-- the tables at first: 0, 0 and unbounded
pub tabled : Tabled (replicate 256 0) (replicate 256 0) (replicate 256 unbounded)
tabled = record { pre = refl; post = refl; low = refl; fits = λ p h. rw (get_or-replicate 256 p unbounded 0 h) (omega arith) }

abbrev no-sums : Sums
no-sums = record { pre = replicate 256 0; post = replicate 256 0; low = replicate 256 unbounded; is_tabled = tabled }

pub sums_none : {net : PNet} {ts : List Mode} → pairs net ≤ 256 → SumsAre net ts 0 (sums_at no-sums)
unfolding together
sums_none few =
    record {
      each = λ p h.
          let l : p < 256 = omega arith in
          entry-is (get_or-replicate 256 p 0 0 l) (get_or-replicate 256 p 0 0 l) (ap bound (get_or-replicate 256 p unbounded 0 l) ∙ bound-unbounded unbounded refl);
    }

module _ {net : PNet} (ms : List ℕ) {r : Row} where
  pub sums-more : {i : ℕ} {new : Row} → i < length ms → SumsAre net (step_modes ms) i r → AddedRow (pairs net) (row net (mode_no (get_or ms i 0))) r new
      → SumsAre net (step_modes ms) (i + 1) new
  sums-more {i} l sums added =
      record {
        each = λ p h.
            added.each p h ∙ ap (λ e. beside e (row net (mode_no (get_or ms i 0)) p)) (sums.each p h)
            ∙ sym (rw (get_or-map mode_no ms i 0) at (together-next net p i (step_modes ms) (rw (length-map ms mode_no) l)))
            ∙ ap (λ n. together net (take n (step_modes ms)) p) (sym (add-one i));
      }

  pub sums-below : (many : ℕ) {i : ℕ} → WellFormed net → i ≤ many → SumsAre net (step_modes ms) i r → Below many (pairs net) r
  sums-below many {i} wf l sums =
      record {
        each = λ p h.
            let short : length (take i (step_modes ms)) ≤ i = rw length-take (omega arith) in
            rw (sums.each p h) (omega (arith, together-small net wf (take i (step_modes ms)) p));
      }

  -- the sums say what the step says
  module _ (sums : SumsAre net (step_modes ms) (length ms) r) where
    whole : (p : ℕ) → p < pairs net → r p ≡ together net (step_modes ms) p
    whole p h = sums.each p h ∙ ap (λ ts. together net ts p) (take_all (length ms) (step_modes ms) (omega (arith, length-map ms mode_no)))

    pub sums-refusal : (m : List ℕ) → refusal_of net r m ≡ sums_refusal net ms m
    unfolding refusal_of sums_refusal
    sums-refusal m = row_ext Argument (pairs net) _ _ r (together net (step_modes ms)) (count m)
        (λ p h. ap (λ e. room_for net.rule (K net p) e.pre) (whole p h)) whole

    sums-fired : (m : List ℕ) → fired_row (pairs net) r m ≡ fired_together net (step_modes ms) m
    unfolding fired_together
    sums-fired m =
        ext_get_or 0 _ _ (row-fired-length (pairs net) r m ∙ sym (row-fired-length (pairs net) (together net (step_modes ms)) m))
        (λ p h.
        let l : p < pairs net = rw row-fired-length at h in
        row-fired-at (pairs net) r m p l ∙ rw (whole p l) (sym (row-fired-at (pairs net) (together net (step_modes ms)) m p l)))

    -- what the step leaves: nothing written where the sums refuse it, or all members fired
    module _ (m : List ℕ) where
      pub sums-refused : {b : Answer} {x : Refusal} → Err x ≡ answer (refusal_of net r m) → b ≡ Err x
          → Leaves (sums_refusal net ms m) (fired_together net (step_modes ms) m) m b m
      sums-refused e h = leaves-refused _ (h ∙ e ∙ ap answer (sums-refusal m)) h

      pub sums-written : {left : List ℕ} → Ok tt ≡ answer (refusal_of net r m) → left ≡ fired_row (pairs net) r m
          → Leaves (sums_refusal net ms m) (fired_together net (step_modes ms) m) m (Ok tt) left
      sums-written e q = leaves-written _ (e ∙ ap answer (sums-refusal m)) refl (q ∙ sums-fired m)
