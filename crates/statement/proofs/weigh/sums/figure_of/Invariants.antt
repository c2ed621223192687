-- The sum so far is that of the first p pairs.
use mathlib.Core.Path.{◌≡◌}
use lib.IntN.{pos, ◌*ℤ◌}
use Rattle.model.specs.Nets.{count}
use Rattle.movement.specs.Figures.{sum as sum_to, weight}
use Rattle.sheets.specs.Decoded.{weights_of}
use Rattle.statement.proofs.weigh.sums.figure_of.Given as goal

abbrev pub invariant-loop-p : goal.invariant-loop-p
invariant-loop-p l = (l.sum ≡ sum_to l.p (λ q. weight (weights_of l.weights) q *ℤ pos (count l.marking q)))
