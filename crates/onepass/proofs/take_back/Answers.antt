-- The last of the arcs that have written is taken back.
use Prim.Native.Nat.{ℕ, ◌-◌}
use mathlib.Core.List.{List}
use mathlib.Core.Path.{◌≡◌}
use native.Mathlib.Omega.{arith}
use Rattle.sheets.specs.Decoded.{net_of}
use Rattle.onepass.specs.OnePass.{written_to, PassedAndWritten}
use Rattle.onepass.proofs.OnePass.{Back, wrote_at, last-back}
use Rattle.onepass.proofs.take_back.Goals.{After-arc-arc}
use Rattle.onepass.proofs.take_back.Goals as goal

back : (c : After-arc-arc) {m : List ℕ} → PassedAndWritten (net_of c.args.net.now.sheet.now) c.args.arcs c.args.written m c.args.marking.now
    → Back c.arc-arc.result c.loop-i.marking (written_to (net_of c.args.net.now.sheet.now) c.args.arcs (c.loop-i.i - 1) m)
back c wrote =
    let l = c.loop-i in
    last-back (wrote_at c.args.net.now.is_open c.requires.mode_arcs wrote) wrote l.i (omega arith) (omega arith) (l.invariant _ wrote) _ c.arc-arc.ensures

pub arc-arc-requires : goal.arc-arc-requires
arc-arc-requires c =
    let pre = c.requires in
    record { own_arc = record { own = pre.mode_arcs; there = omega (arith, pre.by_index.1.few) } }

pub bounds-marking-p : goal.bounds-marking-p
bounds-marking-p c = (back (goal.at.bounds-marking-p c).After-arc-arc c.requires.by_index.1).inside

pub overflow_sub-marking : goal.overflow_sub-marking
overflow_sub-marking c = (back (goal.at.overflow_sub-marking c).After-arc-arc c.requires.by_index.1).enough

pub overflow_add-marking : goal.overflow_add-marking
overflow_add-marking c = let b = back (goal.at.overflow_add-marking c).After-arc-arc c.requires.by_index.1 in omega (arith, b.in_range)

pub bounds-marking-p-in-loop-i : goal.bounds-marking-p-in-loop-i
bounds-marking-p-in-loop-i c = (back (goal.at.bounds-marking-p-in-loop-i c).After-arc-arc c.requires.by_index.1).inside

pub loop-i-preserved : goal.loop-i-preserved
loop-i-preserved c = λ m wrote. (back (goal.at.loop-i-preserved c).After-arc-arc wrote).is

pub returns : goal.returns
unfolding written_to
returns c = λ m wrote.
    let l = c.loop-i in
    let e : l.i ≡ 0 = omega arith in
    rw e at (l.invariant m wrote)
