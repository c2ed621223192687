use native.Mathlib.Omega.{arith}
use Rattle.sheets.proofs.written.Puts.{puts_none, room-more, puts-more, put_length, count_fits}
use Rattle.import.proofs.sheet.put_ones.Goals as goal

pub loop-i-init : goal.loop-i-init
loop-i-init c = puts_none _

pub put_count-next-requires : goal.put_count-next-requires
put_count-next-requires c =
    let l = c.loop-i in
    (count_fits 1 (room-more _ l.i l.invariant _ c.requires c.loop-i-test.true), omega arith)

pub loop-i-preserved : goal.loop-i-preserved
loop-i-preserved c =
    let l = c.loop-i in
    puts-more _ l.i l.invariant (put_length c.put_count-next.ensures)
