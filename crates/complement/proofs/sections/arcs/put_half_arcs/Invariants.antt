-- The bytes of the arcs passed are put.
use Rattle.model.specs.Lists.{joined}
use Rattle.sheets.specs.Decoded.{net_of}
use Rattle.complement.specs.sections.Arcs.{half_bytes}
use Rattle.sheets.specs.written.Puts.{Puts}
use Rattle.complement.proofs.sections.arcs.put_half_arcs.Given as goal

abbrev pub invariant-loop-i : goal.invariant-loop-i
invariant-loop-i l = Puts l.initial.out l.at (joined l.i (half_bytes (net_of l.bounded.net.now.sheet.now) l.bounded.net.now.shape.version l.half l.arcs.start)) l.out l.next
