-- 1, so many times.
use Rattle.sheets.specs.written.Puts.{Puts}
use Rattle.import.specs.Parts.{ones_bytes}
use Rattle.import.proofs.sheet.put_ones.Given as goal

abbrev pub invariant-loop-i : goal.invariant-loop-i
invariant-loop-i l = Puts l.initial.out l.at (ones_bytes l.i) l.out l.next
