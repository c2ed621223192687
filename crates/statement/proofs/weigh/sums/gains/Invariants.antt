-- The sum so far is that of the first i arcs.
use Prim.Native.Nat.{◌+◌}
use mathlib.Core.Path.{◌≡◌}
use Rattle.model.specs.Nets.{arc_no}
use Rattle.movement.specs.Figures.{sum as sum_to}
use Rattle.movement.proofs.Figures.{gain}
use Rattle.sheets.specs.Decoded.{net_of, weights_of}
use Rattle.statement.proofs.weigh.sums.gains.Given as goal

abbrev pub invariant-loop-i : goal.invariant-loop-i
invariant-loop-i l = (l.sum ≡ sum_to l.i (λ k. gain (weights_of l.weights) (arc_no (net_of l.net.sheet.now).arcs (l.arcs.start + k))))
