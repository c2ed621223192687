-- The arcs that a sheet of version 2 means: how many, which stand where, and that they rise.
use Prim.Native.Nat.{ℕ, zero, suc, ◌+◌, ◌-◌, ◌≤◌, ◌<◌}
use mathlib.Core.Path.{◌≡◌, refl, ◌∙◌, ap}
use mathlib.Core.List.{List, [], ◌∷◌, ◌++◌}
use mathlib.Core.Logic.{inl, inr}
use lib.ListN.{length, length-append, get_or-append}
use lib.Seq.{get_or-append-add}
use native.Mathlib.Omega.{arith}
use Rattle.model.specs.Nets.{NetArc, arc_no}
use Rattle.model.specs.WellFormed.{Rises}
use Rattle.model.specs.Lists.{joined}
use Rattle.model.proofs.Tables.{table-length, table_at}
use Rattle.movement.proofs.Joined.{joined-split}
use Rattle.movement.proofs.Nets.{Rising, rises-all}
use Rattle.movement.proofs.Each.{Each, each-joined, each_at, at_each, Sorted, sorted-joined, sorted-rising}
use Rattle.heads.specs.Layout.{group_arc_at, arcs_after, arcs_before, group_at, group_count}
use Rattle.sheets.proofs.nets.GroupsRead.{before-next, GroupRead}
use Rattle.sheets.specs.Decoded.{net_arc_in, group_arcs, arcs_of}

-- arcs that rise one by one rise throughout
pub all-sorted : (xs : List NetArc) → ((j k : ℕ) → j < k → k < length xs → Rises (arc_no xs j) (arc_no xs k)) → Sorted xs
all-sorted [] h = tt
all-sorted (a ∷ xs) h = (
  at_each (Rises a) _ xs (λ k l. h 0 (suc k) (omega arith) (omega arith)),
  all-sorted xs (λ j k l g. h (suc j) (suc k) (omega arith) (omega arith)),
)

module _ (s : List ℕ) (base : ℕ) where
  pub group_length : (t : ℕ) → length (group_arcs s base t) ≡ group_count s base t
  unfolding group_arcs
  group_length t = table-length (group_count s base t) _

  pub group_at_lem : (t i : ℕ) → i < group_count s base t → arc_no (group_arcs s base t) i ≡ net_arc_in s t (group_arc_at (arcs_after (group_at s base t)) i)
  unfolding group_arcs
  group_at_lem t i h = table_at (group_count s base t) (λ i. net_arc_in s t (group_arc_at (arcs_after (group_at s base t)) i)) _ i h

  -- every arc of a mode's group has that mode
  pub group_each : (P : NetArc → Type 0) (t : ℕ) → ((tail : ℕ) → P (net_arc_in s t tail)) → Each P (group_arcs s base t)
  group_each P t h = at_each P (arc_no [] 0) (group_arcs s base t) (λ i l. rw (group_at_lem t i (omega (arith, group_length t))) (h _))

  pub group_arcs-length : (n : ℕ) → length (arcs_of s base n) ≡ arcs_before s base n
  unfolding arcs_of joined arcs_before
  group_arcs-length zero = refl
  group_arcs-length (suc n) = length-append (arcs_of s base n) (group_arcs s base n) ∙ omega (arith, group_arcs-length n, group_length n)

  -- the arcs of modes below t, then those of t and above
  split : (t m : ℕ) → arcs_of s base (t + m) ≡ arcs_of s base t ++ joined m (λ i. group_arcs s base (t + i))
  unfolding arcs_of
  split t m = joined-split t m (group_arcs s base)

  below_each : (t : ℕ) → Each (λ a. a.mode.0 < t) (arcs_of s base t)
  unfolding arcs_of net_arc_in
  below_each t = each-joined (λ a. a.mode.0 < t) t (group_arcs s base) (λ u b. group_each (λ a. a.mode.0 < t) u (λ tail. b))

  above-each : (t m : ℕ) → Each (λ a. t ≤ a.mode.0) (joined m (λ i. group_arcs s base (t + i)))
  unfolding net_arc_in
  above-each t m =
      each-joined (λ a. t ≤ a.mode.0) m (λ i. group_arcs s base (t + i)) (λ i b. group_each (λ a. t ≤ a.mode.0) (t + i) (λ tail. omega arith))

  pub modes-below : (t m j : ℕ) → j < arcs_before s base t → (arc_no (arcs_of s base (t + m)) j).mode.0 < t
  modes-below t m j h =
      let l : j < length (arcs_of s base t) = omega (arith, group_arcs-length t) in
      rw (split t m, get_or-append (arcs_of s base t) (joined m (λ i. group_arcs s base (t + i))) (arc_no [] 0) j l)
      (each_at (λ a. a.mode.0 < t) _ (arcs_of s base t) (below_each t) j l)

  pub modes_from_lem : (t m j : ℕ) → arcs_before s base t ≤ j → j < arcs_before s base (t + m) → t ≤ (arc_no (arcs_of s base (t + m)) j).mode.0
  modes_from_lem t m j h g =
      let xs = arcs_of s base t in
      let ys = joined m (λ i. group_arcs s base (t + i)) in
      let i = j - length xs in
      let e : j ≡ length xs + i = omega (arith, group_arcs-length t) in
      let l : i < length ys = omega (arith, group_arcs-length t, group_arcs-length (t + m), ap length (split t m), length-append xs ys) in
      rw (split t m, e, get_or-append-add xs ys i (arc_no [] 0)) (each_at (λ a. t ≤ a.mode.0) _ ys (above-each t m) i l)

  -- the i-th arc of mode t is the net's arc number arcs_before t + i, and stands at base + 2 * (t + 1) + 14 * that number
  pub arc-is : (t m i : ℕ) → i < group_count s base t
      → arc_no (arcs_of s base (suc t + m)) (arcs_before s base t + i) ≡ net_arc_in s t (group_arc_at (arcs_after (group_at s base t)) i)
  unfolding arcs_of joined
  arc-is t m i h =
      let xs = arcs_of s base t in
      let ys = joined m (λ i. group_arcs s base (suc t + i)) in
      let l : arcs_before s base t + i < length (arcs_of s base (suc t)) = omega (arith, group_arcs-length (suc t), before-next s base t) in
      let e : arcs_before s base t + i ≡ length xs + i = omega (arith, group_arcs-length t) in
      rw (split (suc t) m) (get_or-append (arcs_of s base (suc t)) ys (arc_no [] 0) (arcs_before s base t + i) l
      ∙ rw e (get_or-append-add xs (group_arcs s base t) i (arc_no [] 0))
      ∙ group_at_lem t i h)

  pub each-arcs : (P : NetArc → Type 0) (n : ℕ)
      → ((t : ℕ) → t < n → (i : ℕ) → i < group_count s base t → P (net_arc_in s t (group_arc_at (arcs_after (group_at s base t)) i))) → Each P (arcs_of s base n)
  unfolding arcs_of
  each-arcs P n h =
      each-joined P n (group_arcs s base)
      (λ t l.
      at_each P (arc_no [] 0) (group_arcs s base t)
      (λ i b. let c : i < group_count s base t = omega (arith, group_length t) in rw (group_at_lem t i c) (h t l i c)))

  -- pairs rise within a mode, and modes from group to group
  module _ (pairs : ℕ) where
    group_sorted : (t : ℕ) → GroupRead s pairs base t → Sorted (group_arcs s base t)
    unfolding net_arc_in
    group_sorted t r =
        all-sorted (group_arcs s base t)
        (rises-all (group_arcs s base t)
        (λ k h.
        let l : k + 1 < group_count s base t = omega (arith, group_length t) in
        let e : k + 1 - 1 ≡ k = omega arith in
        rw (group_at_lem t k (omega arith), group_at_lem t (k + 1) l) (inr (refl, rw e at ((r.arcs (k + 1) l).rises (omega arith))))))

    pub arcs-rising : (n : ℕ) → ((t : ℕ) → t < n → GroupRead s pairs base t) → Rising (arcs_of s base n)
    unfolding arcs_of net_arc_in
    arcs-rising n read =
        sorted-rising (arcs_of s base n)
        (sorted-joined n (group_arcs s base) (λ t h. group_sorted t (read t h))
        (λ t u l g. group_each (λ a. Each (Rises a) (group_arcs s base u)) t (λ x. group_each (Rises (net_arc_in s t x)) u (λ y. inl l))))
