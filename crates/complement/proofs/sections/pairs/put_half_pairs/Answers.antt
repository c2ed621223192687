use Rattle.sheets.proofs.written.Puts.{puts_none, room-more, puts-more, puts-end}
use Rattle.complement.proofs.sections.pairs.put_half_pairs.Goals as goal

pub loop-p-init : goal.loop-p-init
loop-p-init c = puts_none _

pub put_half_pair-next-requires : goal.put_half_pair-next-requires
put_half_pair-next-requires c = let l = c.loop-p in
    let pre = c.requires in record { p_lt_pairs = c.loop-p-test.true; room = room-more _ l.p l.invariant _ pre.room c.loop-p-test.true }

pub loop-p-preserved : goal.loop-p-preserved
loop-p-preserved c = let l = c.loop-p in puts-more _ l.p l.invariant c.put_half_pair-next.ensures

pub returns : goal.returns
returns c = let l = c.loop-p in puts-end _ l.p l.invariant _ l.auto.p-end c.loop-p-test.false
