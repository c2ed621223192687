-- Steps of a net and of its complement at corresponding markings.
use Prim.Native.Nat.{ℕ, zero, suc, ◌+◌, ◌-◌, ◌≤◌, ◌<◌}
use mathlib.Core.Path.{◌≡◌, refl, sym, ◌∙◌}
use mathlib.Core.Bool.{false}
use mathlib.Core.List.{List, [], ◌∷◌}
use mathlib.Core.Logic.{⊎_elim}
use mathlib.Core.Option.{none}
use native.Mathlib.Omega.{arith}
use Rattle.model.specs.declared.CapacityRule.{CapacityRule}
use Rattle.model.specs.declared.CapacityRule.TheVariants.{Strong, Weak}
use Rattle.model.specs.declared.Mode.{Mode}
use Rattle.model.specs.First.{◌▸◌, first}
use Rattle.model.specs.Lists.{table, joined}
use Rattle.model.specs.Numbers.{ℕ∞, fin, ∞, ◌≤∞◌, limit}
use Rattle.model.specs.Rows.{Entry, no_arc}
use Rattle.model.specs.Nets.{PNet, pairs, modes, K, count, entry_at, row}
use Rattle.model.specs.WellFormed.{WellFormed}
use Rattle.model.specs.Firing.{after, room_for, rule_refusal, row_refusal, mode_refusal, fired}
use Rattle.movement.specs.Runs.{run_from}
use Rattle.second_form.specs.Dead.{dead_pair, is_dead}
use Rattle.second_form.specs.Complement.{bounded, reserve, claim, complement_pre, complement_pair, original, complement_entry, complement_row, new_places, arcs_of, all_pairs, complement, refusal15, sheet_limits, complement_refusal, Corresponds}
use Rattle.both_forms.specs.Edges.{edge_net}
use Rattle.both_forms.specs.Steps.{beside, together, step_refusal, fired_together, StepsBack, StepsForth, StepExamples}
use Rattle.model.proofs.First.{left-none}
use Rattle.model.proofs.Numbers.{below-least-of}
use Rattle.movement.proofs.Each.{Each}
use Rattle.movement.proofs.Rooms.{room-unbounded}
use Rattle.second_form.proofs.Bounded.{bounded-number, original_or}
use Rattle.second_form.proofs.ComplementRow.{claim-within, claimed, reserve-is, row-original, row-complement, row-uninhibited}
use Rattle.second_form.proofs.ComplementNet.{modes-complement, pairs-complement, room-complement, rows-complement, entry-holds, uninhibited, corresponds-within}
use Rattle.both_forms.proofs.Steps.{There, Accepts, step-accepted, accepted-step, step-fired-at, step-fired-length, members_live}

-- the step's row in the complement: at an original pair the same Pre and Post, and no inhibitor anywhere
together-original : (net : PNet) (ts : List Mode) → There net ts → (p : ℕ) → p < pairs net
    → together (complement net) ts p ≡ original (together net ts p)
unfolding together
together-original net [] h p l = refl
together-original net (t ∷ ts) h p l =
    rw (rows-complement net t p h.0 (omega arith), row-original net.rule (is_dead net t) (pairs net) (K net) (row net t) p l, together-original net ts h.1 p l)

together-uninhibited : (net : PNet) (ts : List Mode) → There net ts → (p : ℕ) → p < all_pairs net → (together (complement net) ts p).inhibitor ≡ ∞
unfolding together
together-uninhibited net [] h p l = refl
together-uninhibited net (t ∷ ts) h p l =
    rw (rows-complement net t p h.0 l, row-uninhibited net.rule (is_dead net t) (pairs net) (K net) (row net t) p, together-uninhibited net ts h.1 p l)

-- 15 was not given: at an unbounded pair no member has an inhibitor
unbounded-least : (net : PNet) (offset : ℕ → ℕ) → refusal15 offset net ≡ none → (ts : List Mode) (p : ℕ) → K net p ≡ ∞ → (together net ts p).inhibitor ≡ ∞
unfolding together
unbounded-least net offset no15 [] p u = refl
unbounded-least net offset no15 (t ∷ ts) p u = rw (uninhibited net offset no15 t p u, unbounded-least net offset no15 ts p u)

reserve-low : (k m m' : ℕ) (i : ℕ∞) → m + m' ≡ k → reserve k i ≤ m' → m ≤∞ i
reserve-low k m m' (fin i) s h = let g : k - i ≤ m' = rw reserve-is at h in omega arith
reserve-low k m m' ∞ s h = tt

-- members claim no less one by one than together
claim-beside : (rule : CapacityRule) (a b : Entry) → claim rule (beside a b) ≤ claim rule a + claim rule b
claim-beside Strong a b = omega arith
claim-beside Weak a b = omega arith

-- what is claimed has room
claim-room : (rule : CapacityRule) (k m m' : ℕ) (e : Entry) → m + m' ≡ k → claim rule e ≤ m' → m + e.post ≤∞ room_for rule (fin k) e.pre
claim-room Strong k m m' e s h = omega arith
claim-room Weak k m m' e s h = omega arith

-- by document 01's rule, and without an inhibitor
strong_pre : (rule : CapacityRule) → rule ≡ Strong → (k : ℕ) (e : Entry) → e.inhibitor ≡ ∞ → complement_pre rule k e ≡ e.post
strong_pre rule strong k e free = rw (strong, free) (omega arith)

strong_room : (rule : CapacityRule) → rule ≡ Strong → (k : ℕ∞) (n pre : ℕ) → n ≤∞ room_for rule k pre → n ≤∞ k
strong_room rule strong k n pre h = rw strong at h

-- at the complement of a bounded pair
module _ (net : PNet) (p k : ℕ) (inside : p < pairs net) (is_bounded : K net p ≡ fin k) where
  abbrev c : ℕ
  c = complement_pair (pairs net) (K net) p

  inside' : c < all_pairs net
  inside' = omega (arith, bounded-number (K net) (pairs net) p k inside is_bounded)

  row_at : (t : Mode) → t.0 < modes net → row (complement net) t c ≡ complement_entry net.rule (is_dead net t) (fin k) (row net t p)
  row_at t h = rows-complement net t c h inside' ∙ row-complement net.rule (is_dead net t) (pairs net) (K net) (row net t) p k inside is_bounded

  -- the step's claim is no more than the complement's Pre
  claim-below : (ts : List Mode) → There net ts → claim net.rule (together net ts p) ≤ (together (complement net) ts c).pre
  unfolding together
  claim-below [] h = omega (arith, claim-within net.rule no_arc)
  claim-below (t ∷ ts) h = rw (row_at t h.0) (omega (arith, claim-beside net.rule (row net t p) (together net ts p), claim-below ts h.1))

  low_below : (ts : List Mode) → There net ts → (m m' : ℕ) → m + m' ≡ k → (together (complement net) ts c).pre ≤ m' → m ≤∞ (together net ts p).inhibitor
  unfolding together
  low_below [] h m m' s l = tt
  low_below (t ∷ ts) h m m' s l =
      let g = rw (row_at t h.0) at l in
      (below-least-of m (row net t p).inhibitor (together net ts p).inhibitor).1
      (reserve-low k m m' (row net t p).inhibitor s (omega arith), low_below ts h.1 m m' s (omega arith))

  -- Pre, Post and their complements add up alike where no member is dead
  sums : (ts : List Mode) → There net ts → Each (λ t. is_dead net t ≡ false) ts
      → (together (complement net) ts c).post + (together net ts p).post ≡ (together (complement net) ts c).pre + (together net ts p).pre
  unfolding together
  sums [] h live = refl
  sums (t ∷ ts) h live = rw (row_at t h.0, live.0) (omega (arith, claimed net.rule k (row net t p), sums ts h.1 live.1))

  -- without inhibitors the complement's Pre is Post, by document 01's rule
  pre-is-post : net.rule ≡ Strong → ((t : Mode) → (row net t p).inhibitor ≡ ∞) → (ts : List Mode) → There net ts
      → (together (complement net) ts c).pre ≡ (together net ts p).post
  unfolding together
  pre-is-post strong free [] h = refl
  pre-is-post strong free (t ∷ ts) h = rw (row_at t h.0, strong_pre net.rule strong k (row net t p) (free t)) (omega (arith, pre-is-post strong free ts h.1))

module _ (net : PNet) (wf : WellFormed net) (offset : ℕ → ℕ) (no15 : refusal15 offset net ≡ none) (ts : List Mode) (m m' : List ℕ)
    (c : Corresponds net m m') where
  abbrev other : ℕ → ℕ
  other p = complement_pair (pairs net) (K net) p

  in_complement_lem : {p : ℕ} → p < all_pairs net → p < pairs (complement net)
  in_complement_lem h = rw pairs-complement h

  -- what the complement accepts, the net accepts
  module _ (a : Accepts (complement net) ts m') where
    there_back : There net ts
    there_back = rw modes-complement at a.there

    pre_at : (p k : ℕ) (h : p < pairs net) (e : K net p ≡ fin k) → (together (complement net) ts (other p)).pre ≤ count m' (other p)
    pre_at p k h e = a.passes.enough (other p) (in_complement_lem (inside' net p k h e))

    room_at : (p : ℕ) → p < pairs net → (b : ℕ∞) → K net p ≡ b → count m p + (together net ts p).post ≤∞ room_for net.rule b (together net ts p).pre
    room_at p h (fin k) e =
        claim-room net.rule k (count m p) (count m' (other p)) (together net ts p) (c.add_up p k h e)
        (omega (arith, pre_at p k h e, claim-below net p k h e ts there_back))
    room_at p h ∞ e = rw (room-unbounded net.rule (together net ts p).pre) tt

    low-at : (p : ℕ) → p < pairs net → (b : ℕ∞) → K net p ≡ b → count m p ≤∞ (together net ts p).inhibitor
    low-at p h (fin k) e = low_below net p k h e ts there_back (count m p) (count m' (other p)) (c.add_up p k h e) (pre_at p k h e)
    low-at p h ∞ e = rw (unbounded-least net offset no15 ts p e) tt

    accepted-back : Accepts net ts m
    accepted-back =
        record {
          some-mode = a.some-mode;
          few = a.few;
          there = there_back;
          passes =
              record {
                enough = λ p h. rw (together-original net ts there_back p h, c.equal p h) at (a.passes.enough p (in_complement_lem (omega arith)));
                room = λ p h. room_at p h (K net p) refl;
                low = λ p h. low-at p h (K net p) refl;
                small = λ p h. rw (together-original net ts there_back p h, c.equal p h) at (a.passes.small p (in_complement_lem (omega arith)));
              };
        }

  -- accepted by both, they correspond again
  step-corresponds : Accepts net ts m → Accepts (complement net) ts m' → Corresponds net (fired_together net ts m) (fired_together (complement net) ts m')
  step-corresponds a a' =
      record {
        one_each = step-fired-length net ts m;
        one_each' = step-fired-length (complement net) ts m';
        equal = λ p h.
            rw (step-fired-at net ts m p h, step-fired-at (complement net) ts m' p (in_complement_lem (omega arith)), together-original net ts a.there p h, c.equal p h);
        add_up = λ p k h e.
            let l = in_complement_lem (inside' net p k h e) in
            rw (step-fired-at net ts m p h, step-fired-at (complement net) ts m' (other p) l)
            (omega (arith, c.add_up p k h e, sums net p k h e ts a.there (members_live net ts m (λ _. corresponds-within net m m' c) a), a.passes.enough p h, a'.passes.enough (other p) l));
      }

  -- what the net accepts, the complement accepts where there is no inhibitor, by document 01's rule
  module _ (strong : net.rule ≡ Strong) (free : (t : Mode) (p : ℕ) → (row net t p).inhibitor ≡ ∞) (a : Accepts net ts m) where
    enough-at : (p k : ℕ) (h : p < pairs net) (e : K net p ≡ fin k) → (together (complement net) ts (other p)).pre ≤ count m' (other p)
    enough-at p k h e =
        let room : count m p + (together net ts p).post ≤ k = strong_room net.rule strong (fin k) _ _ (rw e at (a.passes.room p h)) in
        rw (pre-is-post net p k h e strong (λ t. free t p) ts a.there) (omega (arith, c.add_up p k h e))

    small_at : (p k : ℕ) (h : p < pairs net) (e : K net p ≡ fin k) → after (together (complement net) ts (other p)) (count m' (other p)) ≤ limit
    small_at p k h e =
        let most : k ≤ limit = rw e at (wf.capacity_in_range p h) in
        omega (arith, c.add_up p k h e, sums net p k h e ts a.there (members_live net ts m (λ _. corresponds-within net m m' c) a), a.passes.enough p h, enough-at p k h e)

    accepted-forth : Accepts (complement net) ts m'
    accepted-forth =
        record {
          some-mode = a.some-mode;
          few = a.few;
          there = rw modes-complement a.there;
          passes =
              record {
                enough = λ p h.
                    ⊎_elim (λ (l : p < pairs net). rw (together-original net ts a.there p l, c.equal p l) (a.passes.enough p l))
                    (λ r. rw (← r.4) (enough-at r.0 r.1 r.2 r.3))
                    (original_or (K net) (pairs net) p (rw pairs-complement at h));
                room = λ p h. rw (room-complement net p (together (complement net) ts p).pre) tt;
                low = λ p h. rw (together-uninhibited net ts a.there p (rw pairs-complement at h)) tt;
                small = λ p h.
                    ⊎_elim (λ (l : p < pairs net). rw (together-original net ts a.there p l, c.equal p l) (a.passes.small p l))
                    (λ r. rw (← r.4) (small_at r.0 r.1 r.2 r.3))
                    (original_or (K net) (pairs net) p (rw pairs-complement at h));
              };
        }

pub steps_back_lem : StepsBack
unfolding complement_refusal
steps_back_lem net able ts m m' c e =
    let no15 = left-none (refusal15 able.offset net) _ able.accepted in
    let a' = step-accepted (complement net) ts m' e in
    let a = accepted-back net able.well_formed able.offset no15 ts m m' c a' in
    (accepted-step net ts m a, step-corresponds net able.well_formed able.offset no15 ts m m' c a a')

pub steps-forth : StepsForth
unfolding complement_refusal
steps-forth net strong able free ts m m' c e =
    let no15 = left-none (refusal15 able.offset net) _ able.accepted in
    let everywhere : (t : Mode) (p : ℕ) → (row net t p).inhibitor ≡ ∞ = λ t p. entry-holds (λ e. e.inhibitor ≡ ∞) t p refl net.arcs (λ k h s. free k h) in
    accepted-step (complement net) ts m'
    (accepted-forth net able.well_formed able.offset no15 ts m m' c strong everywhere (step-accepted net ts m e))

-- a pair of capacity k that holds m, and its complement
edge-corresponds : (k : ℕ) (i : ℕ∞) (pre post m c : ℕ) → m + c ≡ k → Corresponds (edge_net k i pre post) (m ∷ []) (m ∷ c ∷ [])
unfolding bounded joined
edge-corresponds k i pre post m c s =
    record {
      one_each = refl;
      one_each' = sym (pairs-complement (edge_net k i pre post));
      equal = equal;
      add_up = add_up;
    }
  where
    equal : (p : ℕ) → p < 1 → count (m ∷ c ∷ []) p ≡ count (m ∷ []) p
    equal zero h = refl
    equal (suc p) h = absurd (omega arith)

    add_up : (p j : ℕ) → p < 1 → K (edge_net k i pre post) p ≡ fin j
        → count (m ∷ []) p + count (m ∷ c ∷ []) (complement_pair 1 (K (edge_net k i pre post)) p) ≡ j
    add_up zero j h e = s ∙ (cc)
    add_up (suc p) j h e = absurd (omega arith)

pub step_examples_lem : StepExamples
unfolding step_refusal row_refusal rule_refusal together run_from mode_refusal fired ◌▸◌ first complement_refusal refusal15 dead_pair is_dead sheet_limits complement arcs_of new_places complement_row bounded joined entry_at table
step_examples_lem =
    record {
      section63 = record { accepted = refl; corresponds = edge-corresponds 5 (fin 4) 1 0 3 2 refl; in_net = refl; fewer = refl; refused = refl };
      smallest = record { accepted = refl; corresponds = edge-corresponds 1 (fin 0) 0 0 0 1 refl; in_net = refl; fewer = refl; refused = refl };
      at_once_alone = (refl, refl);
      in_turn_alone = (refl, refl);
    }
