use borrow.Author.Rules.{rules}
use Rattle.sheets.proofs.written.Puts.{puts_none, room-more, puts-more, puts-end}
use Rattle.complement.proofs.sections.arcs.put_half_arcs.Goals as goal

pub loop-i-init : goal.loop-i-init
loop-i-init c = puts_none _

pub put_half_arc-next-requires : goal.put_half_arc-next-requires
put_half_arc-next-requires c = let l = c.loop-i in
    let pre = c.requires in record { own_arc = search rules; dead_value = search rules; room = room-more _ l.i l.invariant _ pre.room c.loop-i-test.true }

pub loop-i-preserved : goal.loop-i-preserved
loop-i-preserved c = let l = c.loop-i in puts-more _ l.i l.invariant c.put_half_arc-next.ensures

pub returns : goal.returns
returns c = let l = c.loop-i in puts-end _ l.i l.invariant _ l.auto.i-end c.loop-i-test.false
