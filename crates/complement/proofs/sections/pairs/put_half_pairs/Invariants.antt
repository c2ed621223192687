-- The bytes of the pairs passed are put.
use Rattle.model.specs.Lists.{joined}
use Rattle.sheets.specs.Decoded.{net_of}
use Rattle.halves.specs.Pairs.{half_pair}
use Rattle.sheets.specs.written.Puts.{Puts}
use Rattle.complement.proofs.sections.pairs.put_half_pairs.Given as goal

abbrev pub invariant-loop-p : goal.invariant-loop-p
invariant-loop-p l = Puts l.initial.out l.at (joined l.p (half_pair (net_of l.net.sheet.now) l.half)) l.out l.next
