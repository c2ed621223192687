-- The step equation: what a row's complement answers, in terms of the row and of a corresponding marking.
use Prim.Native.Nat.{ℕ, ◌+◌, ◌≤◌, ◌<◌}
use mathlib.Core.Path.{◌≡◌, refl, ◌∙◌}
use mathlib.Core.Bool.{Bool}
use mathlib.Core.Option.{Option, none}
use lib.ListN.{get_or}
use native.Mathlib.Omega.{arith}
use Rattle.model.specs.declared.CapacityRule.{CapacityRule}
use Rattle.model.specs.declared.Thing.{Thing}
use Rattle.model.specs.declared.Why.{Why}
use Rattle.model.specs.declared.Why.TheVariants.{Lacking, OverCapacity, Inhibited, OverLimit}
use Rattle.model.specs.declared.Refusal.{Refusal}
use Rattle.model.specs.First.{◌▸◌, first, only_if}
use Rattle.model.specs.Numbers.{ℕ∞, fin, ∞, limit}
use Rattle.model.specs.Rows.{Entry, Row, Capacities, Counts}
use Rattle.model.specs.Firing.{after, room_for, compared, stops, stopped_by, stopped, lowest_stop, rule_refusal, row_refusal}
use Rattle.second_form.specs.Complement.{bounded, bounded_below, complement_pair, original, complement_row}
use Rattle.second_form.specs.DemandThree.{crowded, crowded_by, lowest_crowded}
use Rattle.model.proofs.First.{first-split, then-under, then-none, then_assoc, first-all, first_ext, first_sparse, first-each, only_if_none}
use Rattle.model.proofs.Numbers.{above_false, false_above}
use Rattle.movement.proofs.Rooms.{room-unbounded}
use Rattle.second_form.proofs.Bounded.{bounded-number, bounded-pair, at-complements, bounded-rises, unbounded}
use Rattle.second_form.proofs.ComplementRow.{lacks-crowded, lacks-by, complement-within, row-original, row-complement, row-uninhibited}

-- the complement's answer in terms of the net's row and marking
abbrev pub answer_in_complement : Thing → ℕ → Capacities → Capacities → Row → Counts → Option Refusal
answer_in_complement thing n K room row M =
    lowest_stop thing n room row M Lacking ▸ lowest_crowded thing n K room row M ▸ lowest_stop thing n room row M OverLimit

module _ (thing : Thing) (rule : CapacityRule) (dead : Bool) (n : ℕ) (K : Capacities) (row : Row) (M M' : Counts)
    (equal : (p : ℕ) → p < n → M' p ≡ M p)
    (add_up : (p k : ℕ) → p < n → K p ≡ fin k → M p + M' (complement_pair n K p) ≡ k)
    (uninhibited : (p : ℕ) → p < n → K p ≡ ∞ → (row p).inhibitor ≡ ∞)
    (in_range : (p k : ℕ) → p < n → K p ≡ fin k → k ≤ limit) where
  abbrev at : ℕ → ℕ
  at j = get_or (bounded K n) j 0

  abbrev room : Capacities
  room p = room_for rule (K p) (row p).pre

  abbrev R : Row
  R = complement_row rule dead n K row

  abbrev stop_at : Why → ℕ → Option Refusal
  stop_at why p = only_if (stops why (R p) ∞ (M' p)) (stopped thing why p (stopped_by why (R p) ∞ (M' p)))

  abbrev crowded_at : ℕ → Option Refusal
  crowded_at p = only_if (crowded (row p) (room p) (M p)) (stopped thing Lacking (complement_pair n K p) (crowded_by (row p) (room p) (M p)))

  -- 11 and 14 look at Pre, Post and the count alone, which the originals keep
  originals : (why : Why) → ((e : Entry) (k : ℕ∞) (m : ℕ) → compared why (original e) ∞ m ≡ compared why e k m)
      → first n (stop_at why) ≡ lowest_stop thing n room row M why
  originals why same = first_ext n (stop_at why) _ (λ p h. rw (row-original rule dead n K row p h, equal p h, same (row p) (room p) (M p)))

  -- 15 was not given: an unbounded pair is never crowded
  elsewhere : (p : ℕ) → p < n → ((j : ℕ) → j < bounded_below K n → ¬ (at j ≡ p)) → crowded_at p ≡ none
  elsewhere p h out = let u = unbounded K n p h out in rw (u, room-unbounded rule (row p).pre, uninhibited p h u)

  abbrev NothingLacks : Type 0
  NothingLacks = first (n + bounded_below K n) (stop_at Lacking) ≡ none

  enough : NothingLacks → (p : ℕ) → p < n + bounded_below K n → (R p).pre ≤ M' p
  enough l p h =
      above_false (R p).pre (fin (M' p))
      (only_if_none _ _ (first-each (n + bounded_below K n) (stop_at Lacking) l p h))

  module _ (p k : ℕ) (h : p < n) (e : K p ≡ fin k) where
    abbrev c : ℕ
    c = complement_pair n K p

    lacks-at : stop_at Lacking c ≡ crowded_at p
    lacks-at =
        let s = add_up p k h e in
        rw (row-complement rule dead n K row p k h e, e, lacks-crowded rule k (M p) (M' c) (row p) s, lacks-by rule k (M p) (M' c) (row p) s)

    -- the count after the movement is within K too, and K is in range
    within-limit : NothingLacks → after (R c) (M' c) ≤ limit
    within-limit l =
        rw (row-complement rule dead n K row p k h e)
        (omega (
          arith,
          in_range p k h e,
          complement-within rule dead k (M p) (M' c) (row p) (add_up p k h e) (rw (row-original rule dead n K row p h, equal p h) at (enough l p (omega arith)))
              (rw (row-complement rule dead n K row p k h e) at (enough l c (omega (arith, bounded-number K n p k h e)))),
        ))

    exceeds_at : NothingLacks → stop_at OverLimit c ≡ none
    exceeds_at l = rw (false_above (after (R c) (M' c)) (fin limit) (within-limit l))

  lacking : first (n + bounded_below K n) (stop_at Lacking) ≡ lowest_stop thing n room row M Lacking ▸ lowest_crowded thing n K room row M
  lacking =
      first-split n (bounded_below K n) (stop_at Lacking)
      ∙ rw (
        originals Lacking (λ e k m. refl),
        first_ext (bounded_below K n) (λ j. stop_at Lacking (n + j)) (λ j. crowded_at (at j)) (at-complements K n (stop_at Lacking) crowded_at lacks-at),
        ← first_sparse n (bounded_below K n) crowded_at at (λ j h. (bounded-pair K n j h).below) (bounded-rises K n) elsewhere,
      )

  exceeding : NothingLacks → first (n + bounded_below K n) (stop_at OverLimit) ≡ lowest_stop thing n room row M OverLimit
  exceeding l =
      first-split n (bounded_below K n) (stop_at OverLimit)
      ∙ rw (
        originals OverLimit (λ e k m. refl),
        first-all (bounded_below K n) (λ j. stop_at OverLimit (n + j))
            (at-complements K n (stop_at OverLimit) (λ p. none) (λ p k h e. exceeds_at p k h e l)),
      )
      (then-none (lowest_stop thing n room row M OverLimit))

  -- 12 and 13 are never given in the complement; 11 is given at an original, or at the complement of a crowded pair
  pub row_step : row_refusal thing (n + bounded_below K n) (λ p. ∞) (complement_row rule dead n K row) M' ≡ answer_in_complement thing n K room row M
  unfolding row_refusal rule_refusal
  row_step =
      rw (
        first-all (n + bounded_below K n) (stop_at OverCapacity) (λ p h. refl),
        first-all (n + bounded_below K n) (stop_at Inhibited) (λ p h. rw (row-uninhibited rule dead n K row p)),
        then-none {A = Refusal} none,
        then-none (first (n + bounded_below K n) (stop_at Lacking)),
      )
      (then-under (first (n + bounded_below K n) (stop_at Lacking)) exceeding
      ∙ rw lacking
      (then_assoc (lowest_stop thing n room row M Lacking) (lowest_crowded thing n K room row M) (lowest_stop thing n room row M OverLimit)))
