-- The modes passed are put.
use Rattle.model.specs.Lists.{joined}
use Rattle.sheets.specs.Decoded.{net_of}
use Rattle.sheets.specs.written.Puts.{Puts}
use Rattle.pnml.specs.Pnml.{mode_text}
use Rattle.export.proofs.texts.puts.put_modes.Given as goal

abbrev pub invariant-loop-t : goal.invariant-loop-t
invariant-loop-t l = Puts l.initial.out l.at (joined l.t (mode_text (net_of l.net.sheet.now).arcs)) l.out l.next
