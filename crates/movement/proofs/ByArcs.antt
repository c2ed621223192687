-- Testing and writing only a mode's arcs gives the same as the definitions over all pairs, position and amount included.
use Prim.Native.Nat.{ℕ, zero, suc, ◌+◌, ◌-◌, ◌≤◌, ◌<◌}
use mathlib.Core.Path.{◌≡◌, refl, sym, ◌∙◌, ap, fun_ext}
use mathlib.Core.Bool.{Bool, false}
use mathlib.Core.List.{List}
use mathlib.Core.Logic.{◌↔◌, ◌⊎◌, ⊎_elim}
use mathlib.Core.Option.{Option, none}
use lib.Dec.{eqb}
use lib.ListN.{length, set, length-set}
use lib.Seq.{get_or-set_same, get_or-set_other, ext_get_or}
use native.Mathlib.Omega.{arith}
use native.Mathlib.Nat.{eq-or-lt_of_le, le_of_suc-le-suc, not-suc-le-zero, add-zero}
use native.Mathlib.Numerals.{add-one}
use borrow.Author.Tests.{eqb-true, eq-eqb}
use Rattle.model.specs.declared.Mode.{Mode}
use Rattle.model.specs.declared.Thing.{Thing}
use Rattle.model.specs.declared.Why.{Why}
use Rattle.model.specs.declared.Why.TheVariants.{Lacking, OverCapacity, Inhibited, OverLimit}
use Rattle.model.specs.declared.Refusal.{Refusal}
use Rattle.model.specs.First.{◌▸◌, only_if, lowest, Lowest, NoneBelow}
use Rattle.model.specs.Numbers.{ℕ∞, fin, ◌≤∞◌, limit}
use Rattle.model.specs.Rows.{no_arc, Row, Capacities, Counts}
use Rattle.model.specs.Nets.{NetArc, PNet, pairs, count, arc_no, row}
use Rattle.model.specs.WellFormed.{WellFormed}
use Rattle.model.specs.Markings.{Marking}
use Rattle.model.specs.Firing.{after, stops, stopped_by, stopped, lowest_stop, rule_refusal, row_refusal, fired_row, fired}
use Rattle.model.proofs.First.{then_assoc, left-none, right-none, none_then, first-each, first-all, first_ext, first_sparse, only_if_none, lowest_or_none}
use Rattle.model.proofs.Numbers.{false_above}
use Rattle.movement.proofs.Nets.{rises-all, rises_in_mode, entry-written, entry-unwritten}
use Rattle.movement.proofs.Markings.{row-fired-at, row-fired-length}

-- c arcs, rising by pair, write a row over n pairs: theirs are its entries, and elsewhere it has no arc
pub record Listing (n : ℕ) (r : Row) (c : ℕ) (arc : ℕ → NetArc) : Type 0 where
  pub inside : (k : ℕ) → k < c → (arc k).pair.0 < n
  pub rising : (j k : ℕ) → j < k → k < c → (arc j).pair.0 < (arc k).pair.0
  pub written : (k : ℕ) → k < c → r (arc k).pair.0 ≡ (arc k).entry
  pub unwritten : (p : ℕ) → p < n → ((k : ℕ) → k < c → ¬ ((arc k).pair.0 ≡ p)) → r p ≡ no_arc

-- "then the mode (6, 11 over all pairs, 12, 13, 14)": each is looked for before the next
abbrev in_order : (Why → Option Refusal) → Option Refusal
in_order find = find Lacking ▸ find OverCapacity ▸ find Inhibited ▸ find OverLimit

in_order_none : (find : Why → Option Refusal) → (in_order find ≡ none) ↔ ((why : Why) → find why ≡ none)
in_order_none find = (
  λ e.
      let e₁ = right-none (find Lacking) _ e in
      let e₂ = right-none (find OverCapacity) _ e₁ in
      elim [ Lacking ↦ left-none _ _ e | OverCapacity ↦ left-none _ _ e₁ | Inhibited ↦ left-none _ _ e₂ | OverLimit ↦ right-none _ _ e₂ ],
  λ h. none_then (h Lacking) (none_then (h OverCapacity) (none_then (h Inhibited) (h OverLimit))),
)

-- `room k` is what 12 compares with at the k-th arc
module _ (about : Thing) (c : ℕ) (arc : ℕ → NetArc) (room : ℕ → ℕ∞) (M : Counts) where
  -- the test at one arc
  abbrev arc_stops : Why → ℕ → Bool
  arc_stops why k = stops why (arc k).entry (room k) (M (arc k).pair.0)

  abbrev pub arcs_stop : Why → Option Refusal
  arcs_stop why = lowest c (arc_stops why) (λ k. stopped about why (arc k).pair.0 (stopped_by why (arc k).entry (room k) (M (arc k).pair.0)))

  unfoldable pub arcs_refusal : Option Refusal
  arcs_refusal = in_order arcs_stop

  abbrev pub ArcsPass : Type 0
  ArcsPass = (k : ℕ) → k < c → (why : Why) → arc_stops why k ≡ false

  -- one pass over the arcs, each tested for all four, establishes that none is found
  pub arcs_pass : (arcs_refusal ≡ none) ↔ ArcsPass
  unfolding arcs_refusal
  arcs_pass = (
    λ e k h why. only_if_none (arc_stops why k) _ (first-each c _ ((in_order_none arcs_stop).0 e why) k h),
    λ pass. (in_order_none arcs_stop).1 (λ why. first-all c _ (λ k h. rw (pass k h why))),
  )

-- "Where no arc is written, Pre = Post = 0 and I is unbounded": nothing stops a mode there
no_arc-passes : (why : Why) (k : ℕ∞) (m : ℕ) → m ≤ limit → m ≤∞ k → stops why no_arc k m ≡ false
no_arc-passes Lacking k m h l = false_above 0 (fin m) (omega arith)
no_arc-passes OverCapacity k m h l = false_above (m + 0) k (rw add-zero l)
no_arc-passes Inhibited k m h l = refl
no_arc-passes OverLimit k m h l = false_above (after no_arc m) (fin limit) (omega arith)

module _ {n c : ℕ} {r : Row} {arc : ℕ → NetArc} (listing : Listing n r c arc) (about : Thing) (K : Capacities) (M : Counts)
    (in_range : (p : ℕ) → p < n → M p ≤ limit) (within : (p : ℕ) → p < n → M p ≤∞ K p)
    (room : ℕ → ℕ∞) (same_room : (k : ℕ) → k < c → K (arc k).pair.0 ≡ room k) where
  pub arcs-stop : (why : Why) → lowest_stop about n K r M why ≡ arcs_stop about c arc room M why
  arcs-stop why =
      first_sparse n c (λ p. only_if (stops why (r p) (K p) (M p)) (stopped about why p (stopped_by why (r p) (K p) (M p)))) (λ k. (arc k).pair.0)
      listing.inside listing.rising
      (λ p h elsewhere. rw (listing.unwritten p h elsewhere, no_arc-passes why (K p) (M p) (in_range p h) (within p h)))
      ∙ first_ext c _ _ (λ k h. rw (listing.written k h, same_room k h))

  arcs-refusal : row_refusal about n K r M ≡ arcs_refusal about c arc room M
  unfolding row_refusal rule_refusal arcs_refusal
  arcs-refusal = rw (then_assoc, then_assoc) (ap in_order (fun_ext arcs-stop))

  pub arcs_accept : (row_refusal about n K r M ≡ none) ↔ ArcsPass about c arc room M
  arcs_accept = rw arcs-refusal (arcs_pass about c arc room M)

-- the arcs write one after the other, each its own pair
unfoldable pub write_arcs : (ℕ → NetArc) → ℕ → List ℕ → List ℕ
write_arcs arc zero m = m
write_arcs arc (suc c) m =
    let m' = write_arcs arc c m in
    set m' (arc c).pair.0 (after (arc c).entry (count m' (arc c).pair.0))

module _ (arc : ℕ → NetArc) (m : List ℕ) where
  pub write_next : (c : ℕ)
      → write_arcs arc (c + 1) m ≡ set (write_arcs arc c m) (arc c).pair.0 (after (arc c).entry (count (write_arcs arc c m) (arc c).pair.0))
  unfolding write_arcs
  write_next c = rw add-one

  pub write_length : (c : ℕ) → length (write_arcs arc c m) ≡ length m
  unfolding write_arcs
  write_length zero = refl
  write_length (suc c) = length-set (write_arcs arc c m) _ _ ∙ write_length c

  -- a pair that no arc names keeps its count
  pub write_keeps : (c p : ℕ) → ((k : ℕ) → k < c → ¬ ((arc k).pair.0 ≡ p)) → count (write_arcs arc c m) p ≡ count m p
  unfolding write_arcs
  write_keeps zero p elsewhere = refl
  write_keeps (suc c) p elsewhere =
      get_or-set_other (write_arcs arc c m) _ p _ 0 (λ e. elsewhere c (omega arith) (sym e)) ∙ write_keeps c p (λ k h. elsewhere k (omega arith))

  -- a pair that an arc names gets M - Pre + Post of that arc: with rising pairs no other arc touches it
  pub write_at : (c k : ℕ) → k < c → (arc k).pair.0 < length m → ((i j : ℕ) → i < j → j < c → (arc i).pair.0 < (arc j).pair.0)
      → count (write_arcs arc c m) (arc k).pair.0 ≡ after (arc k).entry (count m (arc k).pair.0)
  unfolding write_arcs
  write_at zero k h inside rising = absurd (not-suc-le-zero h)
  write_at (suc c) k h inside rising =
      ⊎_elim
      (λ (q : k ≡ c).
      rw q
      (get_or-set_same (write_arcs arc c m) (arc c).pair.0 _ 0 (rw (write_length c, ← q) inside)
      ∙ ap (after (arc c).entry) (write_keeps c (arc c).pair.0 (λ j l e. omega (arith, rising j c l (omega arith))))))
      (λ (l : k < c).
      get_or-set_other (write_arcs arc c m) _ (arc k).pair.0 _ 0 (λ e. omega (arith, rising k c l (omega arith)))
      ∙ write_at c k l inside (λ i j b d. rising i j b (omega arith)))
      (eq-or-lt_of_le (le_of_suc-le-suc h))

-- either one of the arcs names p, or none does
pub named_or_not : (c : ℕ) (arc : ℕ → NetArc) (p : ℕ) → ((k : ℕ) × Lowest c (λ k. (arc k).pair.0 ≡ p) k) ⊎ NoneBelow c (λ k. (arc k).pair.0 ≡ p)
named_or_not c arc p =
    lowest_or_none {test = λ k. eqb (arc k).pair.0 p} (record { sound = λ k. eqb-true (arc k).pair.0 p; complete = λ k. eq-eqb (arc k).pair.0 p }) (λ k. k) c

module _ {n c : ℕ} {r : Row} {arc : ℕ → NetArc} (listing : Listing n r c arc) (m : List ℕ) (one_each : length m ≡ n) where
  write_each : (p : ℕ) → p < n → count (write_arcs arc c m) p ≡ after (r p) (count m p)
  write_each p h =
      ⊎_elim
      (λ (s : (k : ℕ) × Lowest c (λ k. (arc k).pair.0 ≡ p) k).
      let k = s.0 in
      let below = s.1.below in
      rw (← s.1.holds, listing.written k below) (write_at arc m c k below (omega (arith, listing.inside k below)) listing.rising))
      (λ (no : NoneBelow c (λ k. (arc k).pair.0 ≡ p)). write_keeps arc m c p no ∙ rw (listing.unwritten p h no) (omega arith))
      (named_or_not c arc p)

  pub arcs_write : write_arcs arc c m ≡ fired_row n r m
  arcs_write =
      ext_get_or 0 (write_arcs arc c m) (fired_row n r m) (write_length arc m c ∙ one_each ∙ sym (row-fired-length n r m))
      (λ p h. let l : p < n = omega (arith, write_length arc m c) in write_each p l ∙ sym (row-fired-at n r m p l))

-- For a mode of a net, from a marking that a call takes: the marking after.
module _ (net : PNet) (t : Mode) (m : List ℕ) (marking : Marking net m) {c : ℕ} {arc : ℕ → NetArc} (listing : Listing (pairs net) (row net t) c arc) where
  pub fired-by-arcs : fired net t m ≡ write_arcs arc c m
  unfolding fired
  fired-by-arcs = sym (arcs_write listing m marking.one_each)

-- The arcs of a mode stand together in a net: c of them from `start` on, and no other.
module _ (net : PNet) (well_formed : WellFormed net) (t : Mode) (start c : ℕ) (fits : start + c ≤ length net.arcs)
    (own : (k : ℕ) → k < c → (arc_no net.arcs (start + k)).mode.0 ≡ t.0)
    (all : (k : ℕ) → k < length net.arcs → (arc_no net.arcs k).mode.0 ≡ t.0 → (start ≤ k) × (k < start + c)) where
  abbrev arc : ℕ → NetArc
  arc k = arc_no net.arcs (start + k)

  pub segment_lists : Listing (pairs net) (row net t) c (λ k. arc_no net.arcs (start + k))
  segment_lists =
      record {
        inside = λ k h. (well_formed.each_arc (start + k) (omega arith)).pair;
        rising =
            λ j k l h.
            rises_in_mode (arc j) (arc k) (rises-all net.arcs well_formed.rising (start + j) (start + k) (omega arith) (omega arith))
            (own j (omega arith) ∙ sym (own k h));
        written = λ k h. entry-written t (arc k).pair.0 net.arcs well_formed.rising (start + k) (omega arith) (own k h, refl);
        unwritten =
            λ p h elsewhere.
            entry-unwritten t p net.arcs
            (λ k l s.
            let b = all k l s.0 in
            let q : start + (k - start) ≡ k = omega arith in
            elsewhere (k - start) (omega arith) (rw q s.1));
      }
