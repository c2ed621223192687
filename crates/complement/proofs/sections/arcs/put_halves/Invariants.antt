-- The halves passed are put.
use Rattle.model.specs.Lists.{joined}
use Rattle.sheets.specs.Decoded.{net_of}
use Rattle.sheets.specs.written.Puts.{Puts}
use Rattle.complement.specs.sections.Arcs.{half_bytes}
use Rattle.complement.proofs.sections.ModeHalves.{half_no}
use Rattle.complement.proofs.sections.arcs.put_halves.Given as goal

abbrev pub invariant-loop-half : goal.invariant-loop-half
invariant-loop-half l =
    Puts l.initial.out l.at (joined l.half-index (λ h. joined l.arcs.count (half_bytes (net_of l.bounded.net.now.sheet.now) l.bounded.net.now.shape.version (half_no h) l.arcs.start))) l.out l.next
