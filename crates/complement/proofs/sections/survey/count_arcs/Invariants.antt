-- What the arcs of the modes below t become.
use mathlib.Core.Path.{◌≡◌}
use lib.ListN.{length}
use Rattle.model.specs.Lists.{joined}
use Rattle.sheets.specs.Decoded.{net_of}
use Rattle.complement.specs.sections.Arcs.{row_arcs}
use Rattle.complement.proofs.sections.survey.count_arcs.Given as goal

abbrev pub invariant-loop-t : goal.invariant-loop-t
invariant-loop-t l = (l.count ≡ length (joined l.t (row_arcs (net_of l.bounded.net.now.sheet.now))))
