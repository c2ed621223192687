use mathlib.Core.Path.{sym}
use Rattle.sheets.proofs.written.Puts.{puts_as, puts_none, puts-more, puts-end}
use Rattle.export.proofs.texts.Texts.{segment-texts, for_as, for_more}
use Rattle.export.proofs.texts.puts.put_arcs.Goals as goal

pub put_arc-next-requires : goal.put_arc-next-requires
put_arc-next-requires c = let l = c.loop-i in
    let pre = c.requires in
    let room = for_more _ l.i l.invariant _ (for_as (segment-texts pre.mode_arcs) pre.room_for) c.loop-i-test.true in record { own_arc = record { own = pre.mode_arcs; there = c.loop-i-test.true }; room_for = room }

pub loop-i-preserved : goal.loop-i-preserved
loop-i-preserved c =
    let l = c.loop-i in
    puts-more _ l.i l.invariant c.put_arc-next.ensures

pub returns : goal.returns
returns c =
    let l = c.loop-i in
    puts_as (sym (segment-texts c.requires.mode_arcs)) (puts-end _ l.i l.invariant _ l.auto.i-end c.loop-i-test.false)

pub loop-i-init : goal.loop-i-init
loop-i-init c = puts_none _
