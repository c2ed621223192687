-- As long as the places passed.
use Prim.Native.Nat.{◌*◌, ◌≤◌}
use mathlib.Core.Path.{◌≡◌}
use lib.ListN.{length}
use Rattle.model.specs.Lists.{joined}
use Rattle.sheets.specs.Decoded.{net_of}
use Rattle.export.specs.texts.Parts.{place_of}
use Rattle.export.proofs.texts.lengths.places_length.Given as goal

abbrev pub invariant-loop-p : goal.invariant-loop-p
invariant-loop-p l = (l.total ≡ length (joined l.p (place_of (net_of l.net.sheet.now)))) × (l.total ≤ 85 * l.p)
