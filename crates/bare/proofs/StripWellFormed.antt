-- A net with a transition appended, within the limits of a sheet, is one that a sheet can hold.
use Prim.Native.Nat.{ℕ, ◌+◌, ◌-◌, ◌≤◌, ◌<◌}
use mathlib.Core.Path.{◌≡◌, ◌∙◌, ap}
use mathlib.Core.Bool.{true, ◌&&◌}
use mathlib.Core.List.{List, [], ◌∷◌, ◌++◌}
use mathlib.Core.Logic.{inl, ⊎_elim}
use lib.Dec.{leb}
use lib.ListN.{length, get_or-append}
use lib.Seq.{get_or-append-add}
use native.Mathlib.Omega.{arith}
use borrow.Author.Tests.{leb-true}
use Rattle.model.specs.declared.Pair.{Pair}
use Rattle.model.specs.Nets.{NetArc, PNet, pairs, modes, arc_no}
use Rattle.model.specs.Markings.{Marking}
use Rattle.model.specs.WellFormed.{ArcOf, WellFormed}
use Rattle.model.proofs.Both.{and_both}
use Rattle.model.proofs.First.{below_or}
use Rattle.movement.proofs.Nets.{Rising}
use Rattle.model.proofs.Tables.{table_at}
use Rattle.movement.proofs.Each.{Each, each_append, each_at, at_each}
use Rattle.bare.specs.Strip.{strip_arc, strip, strip_limits}
use Rattle.bare.proofs.Arcs.{new_arcs, each-new, modes-many, arcs-many}

-- the limits, one by one
pub record Few (net : PNet) (p : Pair) (k : ℕ) : Type 0 where
  pub deep : k ≤ 63
  pub transitions : length (strip net p k).modes_of ≤ 64
  pub modes : modes (strip net p k) ≤ 256
  pub arcs : length (strip net p k).arcs ≤ 2048

pub few : (net : PNet) (p : Pair) (k : ℕ) → strip_limits net p k ≡ true → Few net p k
few net p k e =
    let three = and_both (leb k 63 && leb (length (strip net p k).modes_of) 64 && leb (modes (strip net p k)) 256) _ e in
    let two = and_both (leb k 63 && leb (length (strip net p k).modes_of) 64) _ three.0 in
    let one = and_both (leb k 63) _ two.0 in
    record {
      deep = leb-true k 63 one.0;
      transitions = leb-true (length (strip net p k).modes_of) 64 one.1;
      modes = leb-true (modes (strip net p k)) 256 two.1;
      arcs = leb-true (length (strip net p k).arcs) 2048 three.1;
    }

-- the same pairs, with the same K
pub marking-same : {net : PNet} (p : Pair) (k : ℕ) {m : List ℕ} → Marking net m → Marking (strip net p k) m
unfolding strip
marking-same p k h = record { one_each = h.one_each; in_range = h.in_range; within = h.within }

abbrev Countable : ℕ → Type 0
Countable c = (1 ≤ c) × (c ≤ 64)

module _ (net : PNet) (p : Pair) (k : ℕ) (well : WellFormed net) (there : p.0 < pairs net) (within : Few net p k) where
  -- the old arcs, then those of the new modes
  abbrev all : List NetArc
  all = net.arcs ++ new_arcs net p (k + 1)

  old_at : (j : ℕ) → j < length net.arcs → arc_no all j ≡ arc_no net.arcs j
  old_at j l = get_or-append net.arcs (new_arcs net p (k + 1)) _ j l

  new-at : (j n : ℕ) → j ≡ length net.arcs + n → n < k + 1 → arc_no all j ≡ strip_arc net p n
  new-at j n e l = ap (arc_no all) e ∙ get_or-append-add net.arcs (new_arcs net p (k + 1)) n _ ∙ table_at (k + 1) (strip_arc net p) _ n l

  still_rising : Rising (strip net p k).arcs
  unfolding strip
  still_rising j l =
      let many = arcs-many net p k in
      ⊎_elim (λ (h : j + 1 < length net.arcs). rw (old_at j (omega arith), old_at (j + 1) h) (well.rising j h))
      (λ (h : length net.arcs ≤ j + 1).
      ⊎_elim (λ (b : j < length net.arcs). rw (old_at j b, new-at (j + 1) 0 (omega arith) (omega arith)) (inl (omega (arith, (well.each_arc j b).mode))))
      (λ (b : length net.arcs ≤ j).
      let n : ℕ = j - length net.arcs in
      rw (new-at j n (omega arith) (omega arith), new-at (j + 1) (n + 1) (omega arith) (omega arith)) (inl (omega arith)))
      (below_or j (length net.arcs)))
      (below_or (j + 1) (length net.arcs))

  old_arc : (a : NetArc) → ArcOf net a → ArcOf (strip net p k) a
  unfolding strip
  old_arc a h =
      record { mode = omega (arith, h.mode, modes-many net p k); pair = h.pair; pre = h.pre; post = h.post; inhibitor = h.inhibitor; not_blank = h.not_blank }

  each-arc : Each (ArcOf (strip net p k)) (strip net p k).arcs
  unfolding strip
  each-arc =
      each_append (ArcOf (strip net p k)) net.arcs (new_arcs net p (k + 1))
      (at_each (ArcOf (strip net p k)) (arc_no [] 0) net.arcs (λ j l. old_arc (arc_no net.arcs j) (well.each_arc j l)))
      (each-new net p (ArcOf (strip net p k)) (k + 1)
      (λ n l.
      record {
        mode = omega (arith, modes-many net p k);
        pair = there;
        pre = omega (arith, within.deep);
        post = omega arith;
        inhibitor = omega (arith, within.deep);
        not_blank = λ b. let z : ◌≡◌ {A = ℕ} 0 1 = let e = b.inhibitor in cc in omega arith;
      }))

  pub well_formed_strip : WellFormed (strip net p k)
  unfolding strip
  well_formed_strip =
      record {
        some_place = well.some_place;
        places = well.places;
        transitions =
            record {
              many = within.transitions;
              each =
                  each_at Countable 0 (strip net p k).modes_of
                  (each_append Countable net.modes_of ((k + 1) ∷ []) (at_each Countable 0 net.modes_of well.transitions.each) ((omega arith, omega (arith, within.deep)), tt));
              in_total = within.modes;
            };
        capacities = well.capacities;
        capacity_in_range = well.capacity_in_range;
        start = marking-same p k well.start;
        arc_count = within.arcs;
        each_arc = each_at (ArcOf (strip net p k)) _ (strip net p k).arcs each-arc;
        rising = still_rising;
      }
