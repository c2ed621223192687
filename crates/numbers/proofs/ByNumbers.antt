-- One number for an arc decides what the four tests decide.
use Prim.Native.Nat.{ℕ, ◌+◌, ◌-◌, ◌≤◌, ◌<◌}
use mathlib.Core.Path.{◌≡◌, sym, ◌∙◌, subst}
use mathlib.Core.Bool.{true, false}
use mathlib.Core.List.{List}
use mathlib.Core.Logic.{◌↔◌, ⊎_elim}
use lib.Dec.{ltb, eqb}
use lib.ListN.{length, get_or, set, length-set}
use lib.Seq.{get_or-set_same, get_or-set_other}
use native.Mathlib.Omega.{arith}
use borrow.Author.Tests.{ltb-true, lt-ltb, eqb-false}
use Rattle.model.specs.declared.Arc.{Arc}
use Rattle.model.specs.Numbers.{limit}
use Rattle.model.specs.Nets.{NetArc, PNet, modes, arc_no}
use Rattle.model.specs.Firing.{room_at}
use Rattle.model.proofs.First.{below_or}
use Rattle.movement.proofs.PassBelow.{pass_is}
use Rattle.model.specs.WellFormed.{WellFormed}
use Rattle.model.specs.PassBelow.{pass_below}
use Rattle.opened.specs.declared.shape.NetShape.{NetShape}
use Rattle.fields.specs.Numbers.{bound}
use Rattle.sheets.specs.Decoded.{net_of, net_arc}
use Rattle.opened.specs.Shape.{ArcIs}
use Rattle.opened.specs.declared.starts.Segment.{Segment}
use Rattle.opened.specs.Starts.{ModeArcs}
use Rattle.rule.specs.AtPair.{Unstopped}
use Rattle.rule.proofs.FourTests.{clash}
use Rattle.numbers.specs.Numbers.{number_of, NumbersBelow, NumbersAre, Numbered}

-- the number of an arc that was read is that of the arc of the net
pub number_is : {s : List ℕ} {net : NetShape} {k : ℕ} {a : Arc} (x : ℕ) {r : ℕ} → ArcIs s net k a → bound x ≡ room_at (net_of s) (net_arc a)
    → r ≡ pass_below (net_arc a).entry (bound x) → r ≡ number_of (net_of s) k
unfolding number_of
number_is {s} x {r} arc e q = subst (λ (b : NetArc). r ≡ pass_below b.entry (room_at (net_of s) b)) arc.is (rw e at q)

-- a table on its way through a mode's arcs: the numbers of the modes below it, and of the first i arcs of its own
pub record NumbersWith (net : PNet) (numbers : List ℕ) (arcs : Segment) (i : ℕ) : Type 0 where
  pub below : NumbersBelow net numbers arcs.mode.0
  pub own : (j : ℕ) → j < i → get_or numbers (arcs.start + j) 0 ≡ number_of net (arcs.start + j)

module _ {net : PNet} {arcs : Segment} (is : ModeArcs net.arcs arcs.mode arcs.start arcs.count) where
  pub with_none : {numbers : List ℕ} → NumbersBelow net numbers arcs.mode.0 → NumbersWith net numbers arcs 0
  with_none below = record { below = below; own = λ j l. absurd (omega arith) }

  -- one more number: its slot is no other arc's
  pub with_more : {numbers : List ℕ} (i k : ℕ) {x : ℕ} → i < arcs.count → k ≡ arcs.start + i → k < 2048 → NumbersWith net numbers arcs i → x ≡ number_of net (arcs.start + i)
      → NumbersWith net (set numbers k x) arcs (i + 1)
  with_more {numbers} i k {x} h q few so_far e =
      record {
        below =
            record {
              long = simp length-set so_far.below.long;
              each = λ j l b. rw (get_or-set_other numbers k j x 0 (λ same. omega (arith, rw (same ∙ q) at b, is.own i h))) (so_far.below.each j l b);
            };
        own =
            λ j l.
            ⊎_elim (λ (b : j < i). rw (get_or-set_other numbers k (arcs.start + j) x 0 (λ same. omega arith)) (so_far.own j b))
            (λ (b : i ≤ j). let s : j ≡ i = omega arith in rw (s, ← q, get_or-set_same numbers k x 0 (omega (arith, so_far.below.long))) (rw (← q) at e))
            (below_or j i);
      }

  -- at the end of the mode: an arc with a mode below the next is the mode's own, or has one below it
  pub with_all : {numbers : List ℕ} → NumbersWith net numbers arcs arcs.count → NumbersBelow net numbers (arcs.mode.0 + 1)
  with_all {numbers} all =
      record {
        long = all.below.long;
        each =
            λ k l b.
            ⊎_elim (λ (h : (arc_no net.arcs k).mode.0 < arcs.mode.0). all.below.each k l h)
            (λ (h : arcs.mode.0 ≤ (arc_no net.arcs k).mode.0).
            let there = is.all k l (omega arith) in
            let e : arcs.start + (k - arcs.start) ≡ k = omega arith in
            rw e at (all.own (k - arcs.start) (omega arith)))
            (below_or (arc_no net.arcs k).mode.0 arcs.mode.0);
      }

module _ (net : PNet) (numbers : List ℕ) where
  pub numbers-none : length numbers ≡ 2048 → NumbersBelow net numbers 0
  numbers-none e = record { long = e; each = λ k l b. absurd (omega arith) }

  pub numbers-all : WellFormed net → (t : ℕ) → modes net ≤ t → length net.arcs ≤ 2048 → NumbersBelow net numbers t → NumbersAre net numbers
  numbers-all well t h few below =
      record { long = omega (arith, below.long); each = λ k l. below.each k l (omega (arith, (well.each_arc k l).mode)) }

-- a table that is not empty is there
pub numbers_there : {s : List ℕ} {net : NetShape} {numbers : List ℕ} → Numbered s net numbers → eqb (length numbers) 0 ≡ false → NumbersAre (net_of s) numbers
numbers_there {numbers = numbers} numbered e = let some = eqb-false (length numbers) 0 e in numbered.numbers_are (omega arith)

-- an arc that was read, at a count: nothing stops its mode there exactly when the count is at least Pre and below the arc's number
module _ (net : PNet) (k : ℕ) (a : Arc) (is : net_arc a ≡ arc_no net.arcs k) (post : a.post ≤ limit) (c : ℕ) where
  abbrev Lets : Type 0
  Lets = Unstopped (net_arc a).entry (room_at net (net_arc a)) c

  decides : Lets ↔ ((a.pre ≤ c) × (c < number_of net k))
  unfolding number_of
  decides =
      subst (λ (x : NetArc). Lets ↔ ((a.pre ≤ c) × (c < pass_below x.entry (room_at net x)))) is
      (pass_is (net_arc a).entry (room_at net (net_arc a)) c post)

  pub below-pre : c < a.pre → (false ≡ true) ↔ Lets
  below-pre l = (λ z. clash (sym z), λ free. absurd (omega (arith, decides.0 free)))

  pub below-number : (n : ℕ) → n ≡ number_of net k → a.pre ≤ c → (ltb c n ≡ true) ↔ Lets
  below-number n e l = (
    λ t. decides.1 (l, rw (← e) (ltb-true c n t)),
    λ free. lt-ltb c n (rw e (decides.0 free).1),
  )
