-- The complement of a net: its pairs, modes, capacities, rows and first marking.
use Prim.Native.Nat.{ℕ, zero, suc, ◌+◌, ◌-◌, ◌≤◌, ◌<◌}
use mathlib.Core.Path.{◌≡◌, refl, sym, ◌∙◌, ap}
use mathlib.Core.Bool.{Bool, true, false, cond, ◌&&◌, true≢false}
use mathlib.Core.List.{List, [], ◌∷◌, ◌++◌, map, append-nil}
use mathlib.Core.Logic.{⊎_elim}
use mathlib.Core.Option.{none}
use lib.Dec.{eqb, ltb}
use lib.ListN.{length, take, get_or, replicate, length-append, length-replicate, get_or-replicate, length-map, get_or-append, get_or-eq_default}
use lib.Seq.{get_or-append-add}
use borrow.Author.Tests.{eqb-true, ltb-false}
use native.Mathlib.Omega.{arith}
use native.Mathlib.Nat.{le_of_suc-le-suc, not-suc-le-zero}
use Rattle.model.specs.declared.Mode.{Mode}
use Rattle.model.specs.Numbers.{ℕ∞, fin, ∞, ◌≤∞◌, limit}
use Rattle.model.specs.Rows.{Entry, no_arc, Capacities}
use Rattle.model.specs.Nets.{NetArc, PNet, total, pairs, modes, K, count, arc_no, entry_at, row}
use Rattle.model.specs.Markings.{Marking}
use Rattle.model.specs.WellFormed.{WellFormed}
use Rattle.model.specs.Firing.{room_for}
use Rattle.second_form.specs.Dead.{is_dead}
use Rattle.second_form.specs.Complement.{finite, bounded_below, complement_pair, complement_row, new_places, less, bounded_pairs, all_pairs, complement, inhibits_unbounded, refusal15, Corresponds}
use Rattle.model.specs.Lists.{joined, list_if}
use Rattle.model.proofs.First.{below_or, first-each, only_if_none}
use Rattle.movement.proofs.Rooms.{room-unbounded}
use Rattle.movement.proofs.Joined.{joined-front, joined_ext}
use Rattle.second_form.proofs.Bounded.{below_none, below-at-most, below_split, bounded_at, bounded-number}
use Rattle.second_form.proofs.WrittenRows.{written_row}

total-append : (xs ys : List ℕ) → total (xs ++ ys) ≡ total xs + total ys
total-append [] ys = omega arith
total-append (x ∷ xs) ys = omega (arith, total-append xs ys)

total-new : (K : Capacities) (cs : List ℕ) → total (new_places K cs) ≡ bounded_below K (total cs)
unfolding new_places
total-new K [] = sym (below_none K)
total-new K (c ∷ cs) = simp total-append (omega (arith, one (ltb 0 (bounded_below K c)) refl, total-new (λ p. K (c + p)) cs, below_split K c (total cs)))
  where
    one : (b : Bool) → ltb 0 (bounded_below K c) ≡ b → total (list_if b (bounded_below K c)) ≡ bounded_below K c
    one true e = omega arith
    one false e = omega (arith, ltb-false 0 (bounded_below K c) e)

-- where the pairs of the next place start
pub total-next : (cs : List ℕ) (i : ℕ) → i < length cs → total (take (suc i) cs) ≡ total (take i cs) + get_or cs i 0
total-next [] i h = absurd (not-suc-le-zero h)
total-next (c ∷ cs) zero h = omega arith
total-next (c ∷ cs) (suc i) h = omega (arith, total-next cs i (omega arith))

abbrev pub new_colours : Capacities → List ℕ → ℕ → ℕ
new_colours K cs i = bounded_below K (total (take (suc i) cs)) - bounded_below K (total (take i cs))

pub colours-at-most : (K : Capacities) (cs : List ℕ) (i : ℕ) → i < length cs → new_colours K cs i ≤ get_or cs i 0
colours-at-most K cs i h =
    let first = total (take i cs) in
    let more = get_or cs i 0 in
    omega (arith, ap (bounded_below K) (total-next cs i h), below_split K first more, below-at-most (λ p. K (first + p)) more)

-- "one for each place with a finite pair, with as many colours as it has finite pairs"
abbrev pub new_place : Capacities → List ℕ → ℕ → List ℕ
new_place K cs i = list_if (ltb 0 (new_colours K cs i)) (new_colours K cs i)

pub new-places : (K : Capacities) (cs : List ℕ) → new_places K cs ≡ joined (length cs) (new_place K cs)
unfolding new_places joined
new-places K [] = refl
new-places K (c ∷ cs) =
    let first : bounded_below K (c + 0) - bounded_below K 0 ≡ bounded_below K c = let e : c + 0 ≡ c = omega arith in rw (e, below_none K) (omega arith) in
    rw (joined-front (length cs) (new_place K (c ∷ cs)), ← joined_ext (length cs) _ _ later, ← new-places (λ p. K (c + p)) cs) (simp (first, append-nil))
  where
    later : (i : ℕ) → i < length cs → new_place (λ p. K (c + p)) cs i ≡ new_place K (c ∷ cs) (suc i)
    later i h =
        let first = total (take i cs) in
        let end = total (take (suc i) cs) in
        let e : bounded_below (λ p. K (c + p)) end - bounded_below (λ p. K (c + p)) first ≡ bounded_below K (c + end) - bounded_below K (c + first) =
        omega (arith, below_split K c end, below_split K c first) in
        ap (λ n. list_if (ltb 0 n) n) e

map_at : {A B : Type 0} (f : A → B) (l : List A) (n : ℕ) (d : B) (c : A) → n < length l → get_or (map f l) n d ≡ f (get_or l n c)
map_at f [] n d c h = absurd (not-suc-le-zero h)
map_at f (x ∷ l) zero d c h = refl
map_at f (x ∷ l) (suc n) d c h = map_at f l n d c (le_of_suc-le-suc h)

module _ (net : PNet) where
  pub modes-complement : modes (complement net) ≡ modes net
  unfolding complement
  modes-complement = refl

  pub pairs-complement : pairs (complement net) ≡ all_pairs net
  unfolding complement
  pairs-complement = omega (arith, total-append net.colours (new_places (K net) net.colours), total-new (K net) net.colours)

  pub capacity-complement : (p : ℕ) → K (complement net) p ≡ ∞
  unfolding complement
  capacity-complement p =
      ⊎_elim (λ (l : p < all_pairs net). get_or-replicate (all_pairs net) p ∞ ∞ l)
      (λ (l : all_pairs net ≤ p). get_or-eq_default (replicate (all_pairs net) ∞) ∞ (rw length-replicate l)) (below_or p (all_pairs net))

  -- by either rule
  pub room-complement : (p pre : ℕ) → room_for (complement net).rule (K (complement net) p) pre ≡ ∞
  room-complement p pre = rw (capacity-complement p) (room-unbounded (complement net).rule pre)

  pub rows-complement : (t : Mode) (p : ℕ) → t.0 < modes net → p < all_pairs net
      → row (complement net) t p ≡ complement_row net.rule (is_dead net t) (pairs net) (K net) (row net t) p
  unfolding complement
  rows-complement = written_row (modes net) (all_pairs net) (λ t. complement_row net.rule (is_dead net t) (pairs net) (K net) (row net t))

-- what holds of no arc, and of each arc at p, holds of what stands at p
pub entry-holds : (P : Entry → Type 0) (t : Mode) (p : ℕ) → P no_arc → (arcs : List NetArc)
    → ((k : ℕ) → k < length arcs → (arc_no arcs k).pair.0 ≡ p → P (arc_no arcs k).entry) → P (entry_at arcs t p)
unfolding entry_at
entry-holds P t p n [] each = n
entry-holds P t p n (a ∷ arcs) each =
    go (eqb a.mode.0 t.0) (eqb a.pair.0 p) refl (entry-holds P t p n arcs (λ k l. each (suc k) (omega arith)))
  where
    go : (x y : Bool) → eqb a.pair.0 p ≡ y → P (entry_at arcs t p) → P (cond (x && y) a.entry (entry_at arcs t p))
    go true true e later = each 0 (omega arith) (eqb-true a.pair.0 p e)
    go true false e later = later
    go false y e later = later

abbrev pub Small : Entry → Type 0
Small e = (e.pre ≤ limit) × (e.post ≤ limit)

pub row_small : (net : PNet) → WellFormed net → (t : Mode) (p : ℕ) → Small (row net t p)
row_small net wf t p = entry-holds Small t p (omega arith) net.arcs (λ k h s. let a = wf.each_arc k h in (a.pre, a.post))

-- 15 was not given: no inhibitor stands at an unbounded pair
pub uninhibited : (net : PNet) (offset : ℕ → ℕ) → refusal15 offset net ≡ none → (t : Mode) (p : ℕ) → K net p ≡ ∞ → (row net t p).inhibitor ≡ ∞
unfolding refusal15
uninhibited net offset e t p u = entry-holds (λ e. e.inhibitor ≡ ∞) t p refl net.arcs each
  where
    each : (k : ℕ) → k < length net.arcs → (arc_no net.arcs k).pair.0 ≡ p → (arc_no net.arcs k).entry.inhibitor ≡ ∞
    each k h s =
        go (arc_no net.arcs k).entry.inhibitor refl
        (rw (s, u) at (only_if_none (inhibits_unbounded net (arc_no net.arcs k)) _ (first-each (length net.arcs) _ e k h)))
      where
        go : (i : ℕ∞) → (arc_no net.arcs k).entry.inhibitor ≡ i → (finite (arc_no net.arcs k).entry.inhibitor && true) ≡ false
            → (arc_no net.arcs k).entry.inhibitor ≡ ∞
        go (fin i) f d = absurd (true≢false (rw f at d))
        go ∞ f d = f

-- a marking that corresponds is within capacity
pub corresponds-within : (net : PNet) (m m' : List ℕ) → Corresponds net m m' → (p : ℕ) → p < pairs net → count m p ≤∞ K net p
corresponds-within net m m' c p h = go (K net p) refl
  where
    go : (b : ℕ∞) → K net p ≡ b → count m p ≤∞ b
    go (fin k) e = omega (arith, c.add_up p k h e)
    go ∞ e = tt

-- the first markings correspond
pub first-corresponds : (net : PNet) → Marking net net.start → Corresponds net net.start (complement net).start
unfolding complement
first-corresponds net marks =
    record {
      one_each = marks.one_each;
      one_each' = length-append net.start _ ∙ rw (marks.one_each, length-map) (sym (pairs-complement net));
      equal = λ p h. get_or-append net.start _ 0 p (rw marks.one_each h);
      add_up = λ p k h. add_up p k (omega arith);
    }
  where
    rest : ℕ → ℕ
    rest p = less (K net p) (count net.start p)

    add_up : (p k : ℕ) → p < pairs net → K net p ≡ fin k
        → count net.start p + count (net.start ++ map rest (bounded_pairs net)) (complement_pair (pairs net) (K net) p) ≡ k
    add_up p k h e =
        let less : count net.start p ≤ k = rw e at (marks.within p h) in
        let is : count (net.start ++ map rest (bounded_pairs net)) (complement_pair (pairs net) (K net) p) ≡ k - count net.start p =
        ap (λ n. count (net.start ++ map rest (bounded_pairs net)) (n + bounded_below (K net) p)) (sym marks.one_each)
        ∙ get_or-append-add net.start (map rest (bounded_pairs net)) (bounded_below (K net) p) 0
        ∙ map_at rest (bounded_pairs net) (bounded_below (K net) p) 0 0 (bounded-number (K net) (pairs net) p k h e)
        ∙ rw (bounded_at (K net) (pairs net) p k h e, e) (omega arith)
        in
        omega arith

pub start-corresponds : (net : PNet) → WellFormed net → Corresponds net net.start (complement net).start
start-corresponds net wf = first-corresponds net wf.start
