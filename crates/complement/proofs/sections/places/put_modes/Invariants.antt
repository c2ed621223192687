-- The bytes of the transitions passed are put.
use Rattle.model.specs.Lists.{joined}
use Rattle.sheets.specs.Decoded.{net_of}
use Rattle.sheets.specs.written.Puts.{Puts}
use Rattle.complement.proofs.sections.PlaceHalves.{transition_bytes}
use Rattle.complement.proofs.sections.places.put_modes.Given as goal

abbrev pub invariant-loop-transition : goal.invariant-loop-transition
invariant-loop-transition l = Puts l.initial.out l.at (joined l.transition (transition_bytes (net_of l.net.sheet.now))) l.out l.next
