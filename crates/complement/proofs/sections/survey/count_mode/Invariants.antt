-- What the arcs before the i-th become.
use Prim.Native.Nat.{◌+◌, ◌≤◌, ◌*◌}
use mathlib.Core.Path.{◌≡◌}
use lib.ListN.{length}
use Rattle.model.specs.Lists.{joined}
use Rattle.sheets.specs.Decoded.{net_of}
use Rattle.complement.proofs.sections.ModeHalves.{both_halves}
use Rattle.complement.proofs.sections.survey.count_mode.Given as goal

abbrev pub invariant-loop-i : goal.invariant-loop-i
invariant-loop-i l = (l.count ≡ length (joined l.i (λ k. both_halves (net_of l.bounded.net.now.sheet.now) (l.arcs.start + k)))) × (l.count ≤ 2 * l.i)
