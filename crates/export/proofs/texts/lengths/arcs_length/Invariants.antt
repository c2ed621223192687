-- As long as the arcs passed.
use Prim.Native.Nat.{◌+◌, ◌*◌, ◌≤◌}
use mathlib.Core.Path.{◌≡◌}
use lib.ListN.{length}
use Rattle.model.specs.Lists.{joined}
use Rattle.sheets.specs.Decoded.{net_of}
use Rattle.export.specs.texts.Parts.{arc_no_text}
use Rattle.export.proofs.texts.lengths.arcs_length.Given as goal

abbrev pub invariant-loop-i : goal.invariant-loop-i
invariant-loop-i l = (l.total ≡ length (joined l.i (λ k. arc_no_text (net_of l.net.sheet.now) (l.arcs.start + k)))) × (l.total ≤ 214 * l.i)
