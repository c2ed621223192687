use mathlib.Core.Path.{sym}
use native.Mathlib.Omega.{arith}
use Rattle.sheets.proofs.written.Puts.{put_length, room_as, puts_as, arc-fits, puts_none, room-more, puts-more, puts-end}
use Rattle.convert.proofs.Segments.{segment_bytes}
use Rattle.convert.proofs.arcs.put_mode_arcs.Goals as goal

pub put_arc-next-requires : goal.put_arc-next-requires
put_arc-next-requires c = let l = c.loop-i in
    let room = room-more _ l.i l.invariant _ (room_as (segment_bytes _ _ _ _ c.requires.mode_arcs _) c.requires.room) c.loop-i-test.true in record { own_arc = record { own = c.requires.mode_arcs; there = c.loop-i-test.true }; version_in_bounds = arc-fits c.args.version _ room }

pub loop-i-preserved : goal.loop-i-preserved
loop-i-preserved c =
    let l = c.loop-i in
    puts-more _ l.i l.invariant (put_length c.put_arc-next.ensures)

pub returns : goal.returns
returns c =
    let l = c.loop-i in
    let pre = c.requires in
    puts_as (sym (segment_bytes _ _ _ _ pre.mode_arcs _)) (puts-end _ l.i l.invariant _ l.auto.i-end c.loop-i-test.false)

pub loop-i-init : goal.loop-i-init
loop-i-init c = puts_none _
