-- The test at one pair, over the sums there, and by how much it stops.
use native.Mathlib.Omega.{arith}
use Rattle.sheets.specs.Decoded.{net_of}
use Rattle.opened.proofs.Shapes.{sizes}
use Rattle.fire.proofs.step.AtPairs.{counted, summed, stop-found, stop-passed}
use Rattle.fire.proofs.step.pairs.pair_stop.Goals as goal

pub sum_at-arc-requires : goal.sum_at-arc-requires
sum_at-arc-requires c = omega (arith, (sizes c.args.net.now.is_open).pairs_within)

pub room_at-requires : goal.room_at-requires
room_at-requires c = record { pair_lt_pairs = summed c.args.net.now.is_open c.requires.below c.requires.p_lt_pairs c.sum_at-arc.ensures }

pub offset_bounds-marking-p : goal.offset_bounds-marking-p
offset_bounds-marking-p c = omega (arith, (sizes c.args.net.now.is_open).pairs_within)

pub bounds-marking-p : goal.bounds-marking-p
bounds-marking-p c =
    omega (arith, (sizes c.args.net.now.is_open).pairs, c.requires.marking.one_each)

pub is_stopped-requires : goal.is_stopped-requires
is_stopped-requires c =
    counted c.args.net.now.is_open c.requires.marking c.requires.below c.requires.p_lt_pairs c.sum_at-arc.ensures

pub stopped_by-by-requires : goal.stopped_by-by-requires
stopped_by-by-requires c =
    counted c.args.net.now.is_open c.requires.marking c.requires.below c.requires.p_lt_pairs c.sum_at-arc.ensures

pub returns-then-is_stopped : goal.returns-then-is_stopped
returns-then-is_stopped c =
    let a = c.args in
    stop-found (net_of a.net.now.sheet.now) a.marking.now _ c.sum_at-arc.ensures c.room_at.ensures a.why c.is_stopped.ensures c.if-is_stopped.true
    c.stopped_by-by.ensures c.refused.ensures

pub returns : goal.returns
returns c =
    stop-passed _ _ _ c.sum_at-arc.ensures c.room_at.ensures _ c.is_stopped.ensures c.if-is_stopped.false
