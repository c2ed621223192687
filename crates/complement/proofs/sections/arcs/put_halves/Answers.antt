use mathlib.Core.Path.{sym}
use Rattle.sheets.proofs.written.Puts.{room_as, puts_as, puts_none, room-more, puts-more, puts-end}
use Rattle.complement.proofs.sections.ModeHalves.{mode-part}
use Rattle.complement.proofs.sections.arcs.put_halves.Goals as goal

pub put_half_arcs-next-requires : goal.put_half_arcs-next-requires
put_half_arcs-next-requires c = let l = c.loop-half in
    let pre = c.requires in
    let room = room-more _ l.half-index l.invariant 2 (room_as (mode-part c.args.bounded.now.net.now.is_open _ _ _ pre.mode_arcs _) pre.room) c.loop-half-test.true in record { mode_arcs = pre.mode_arcs; dead_value = pre.dead_value; room = room }

pub loop-half-init : goal.loop-half-init
loop-half-init c = puts_none _

pub loop-half-preserved : goal.loop-half-preserved
loop-half-preserved c = let l = c.loop-half in puts-more _ l.half-index l.invariant c.put_half_arcs-next.ensures

pub returns : goal.returns
returns c =
    let l = c.loop-half in
    let pre = c.requires in
    puts_as (sym (mode-part c.args.bounded.now.net.now.is_open _ _ _ pre.mode_arcs _)) (puts-end _ l.half-index l.invariant 2 l.auto.half-index-end c.loop-half-test.false)
