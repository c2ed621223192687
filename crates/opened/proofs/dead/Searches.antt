-- A search over the arcs of one mode of an open net.
use Rattle.std.specs.Prelude.{Some, None}
use Prim.Native.Nat.{ℕ, ◌+◌, ◌≤◌, ◌<◌}
use mathlib.Core.Path.{◌≡◌, sym, ◌∙◌, ap, ap₂}
use mathlib.Core.Bool.{Bool, true, false}
use mathlib.Core.List.{List}
use mathlib.Core.Option.{none, some}
use native.Mathlib.Omega.{arith}
use borrow.Author.Count.{below_more}
use Rattle.model.specs.declared.Arc.{Arc}
use Rattle.model.specs.declared.Mode.{Mode}
use Rattle.model.specs.Nets.{PNet, mode_no, K, arc_no}
use Rattle.second_form.specs.Dead.{kills, dead_pair, first_dead}
use Rattle.second_form.proofs.Dead.{arc_kills, Passed, arcs-alive, arcs-dead, Alive, all-alive, dead-first}
use Rattle.opened.specs.declared.shape.NetShape.{NetShape}
use Rattle.sheets.specs.Decoded.{net_of, net_arc}
use Rattle.opened.specs.Shape.{Open, ArcIs}
use Rattle.opened.specs.declared.starts.Segment.{Segment}
use Rattle.opened.specs.Starts.{ModeArcs, SegmentOf}
use Rattle.opened.proofs.Shapes.{sizes}
use Rattle.opened.proofs.Segments.{mode_lists, segment-own}
use Rattle.opened.specs.dead.FirstDead.{name}

-- a search that has passed i arcs of a segment, and one more
pub passed-more : (net : PNet) (start i : ℕ) → Passed net start (start + i) → arc_kills net (start + i) ≡ false → Passed net start (start + (i + 1))
passed-more net start i passed e =
    let next : start + (i + 1) ≡ start + i + 1 = omega arith in
    rw next (below_more (λ k. start ≤ k → arc_kills net k ≡ false) (start + i) passed (λ _. e))

module _ {s : List ℕ} {net : NetShape} where
  -- what is read of the k-th arc is what it says of its mode
  pub arc-kills : {k : ℕ} {a : Arc} {r : Bool} → ArcIs s net k a → r ≡ kills (net_of s).rule (net_arc a).entry (K (net_of s) a.pair.0) → r ≡ arc_kills (net_of s) k
  arc-kills arc e = e ∙ ap (λ x. kills (net_of s).rule x.entry (K (net_of s) x.pair.0)) arc.is

  module _ (o : Open s net) (t : Mode) (start count : ℕ) (arcs : ModeArcs (net_of s).arcs t start count) where
    pub none-kills : Passed (net_of s) start (start + count) → dead_pair (net_of s) t ≡ none
    none-kills = arcs-alive (net_of s) t start count (mode_lists (net_of s) (sizes o).well_formed t start count arcs)

    pub one-kills : (k : ℕ) → start ≤ k → k < start + count → Passed (net_of s) start k → arc_kills (net_of s) k ≡ true
        → dead_pair (net_of s) t ≡ some (arc_no (net_of s).arcs k).pair.0
    one-kills = arcs-dead (net_of s) t start count (mode_lists (net_of s) (sizes o).well_formed t start count arcs)

-- The search over the modes: it comes to its end, or the k-th arc is the first that makes its mode dead.
module _ {s : List ℕ} {net : NetShape} (o : Open s net) where
  pub none_named : {t : ℕ} → net.modes ≤ t → Alive (net_of s) t → name (first_dead (net_of s)) ≡ None
  none_named l alive = ap name (all-alive (net_of s) (λ u h. alive u (omega (arith, (sizes o).modes))))

  pub one-named : (t : ℕ) (segment : Segment) (i : ℕ) {a : Arc} {r : Bool} → t < net.modes → Alive (net_of s) t → SegmentOf (net_of s).arcs (mode_no t) segment
      → i < segment.count → Passed (net_of s) segment.start (segment.start + i) → ArcIs s net (segment.start + i) a
      → r ≡ kills (net_of s).rule (net_arc a).entry (K (net_of s) a.pair.0) → r ≡ true → Some (a.mode, a.pair) ≡ name (first_dead (net_of s))
  one-named t segment i h alive is l passed arc q e =
      let arcs = segment-own is in
      let k = segment.start + i in
      let own : (arc_no (net_of s).arcs k).mode.0 ≡ t = arcs.own i l in
      let first =
      dead-first (net_of s) t (arc_no (net_of s).arcs k).pair.0 (omega (arith, (sizes o).modes)) alive
      (one-kills o (mode_no t) segment.start segment.count arcs k (omega arith) (omega arith) passed (sym (arc-kills arc q) ∙ e))
      in
      rw first (ap₂ (λ t p. Some (t, p)) (ap (λ x. x.mode) arc.is ∙ ap mode_no own) (ap (λ x. x.pair) arc.is))
