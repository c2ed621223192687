use Rattle.sheets.proofs.written.Puts.{puts_none, room-more, puts-more, puts-end}
use Rattle.sheets.proofs.written.put_part.Goals as goal

pub loop-i-init : goal.loop-i-init
loop-i-init c = puts_none _

pub put_byte-next-requires : goal.put_byte-next-requires
put_byte-next-requires c =
    let l = c.loop-i in
    (room-more _ l.i l.invariant _ c.requires.room c.loop-i-test.true).fits

pub loop-i-preserved : goal.loop-i-preserved
loop-i-preserved c =
    let l = c.loop-i in
    puts-more _ l.i l.invariant c.put_byte-next.ensures

pub returns : goal.returns
returns c = let l = c.loop-i in puts-end _ l.i l.invariant _ l.auto.i-end c.loop-i-test.false
