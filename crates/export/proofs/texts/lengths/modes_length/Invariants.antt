-- As long as the modes passed.
use Prim.Native.Nat.{◌*◌, ◌≤◌}
use mathlib.Core.Path.{◌≡◌}
use lib.ListN.{length}
use Rattle.model.specs.Lists.{joined}
use Rattle.sheets.specs.Decoded.{net_of}
use Rattle.pnml.specs.Pnml.{mode_text}
use Rattle.export.proofs.texts.lengths.modes_length.Given as goal

abbrev pub invariant-loop-t : goal.invariant-loop-t
invariant-loop-t l = (l.total ≡ length (joined l.t (mode_text (net_of l.net.sheet.now).arcs))) × (l.total ≤ 438302 * l.t)
