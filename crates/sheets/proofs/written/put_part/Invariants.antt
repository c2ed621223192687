-- The bytes passed are put.
use Rattle.sheets.specs.written.Puts.{Puts, part_of}
use Rattle.sheets.proofs.written.put_part.Given as goal

abbrev pub invariant-loop-i : goal.invariant-loop-i
invariant-loop-i l = Puts l.initial.out l.at (part_of l.s l.start l.i) l.out l.next
