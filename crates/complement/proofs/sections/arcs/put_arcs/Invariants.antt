-- The arcs of the modes passed are put.
use Rattle.model.specs.Lists.{joined}
use Rattle.sheets.specs.Decoded.{net_of}
use Rattle.sheets.specs.written.Puts.{Puts}
use Rattle.complement.specs.sections.Arcs.{row_bytes}
use Rattle.complement.proofs.sections.arcs.put_arcs.Given as goal

abbrev pub invariant-loop-t : goal.invariant-loop-t
invariant-loop-t l = Puts l.initial.out l.at (joined l.t (row_bytes (net_of l.bounded.net.now.sheet.now) l.bounded.net.now.shape.version)) l.out l.next
