-- k movements have been weighed: the sums so far are exact.
use Rattle.sheets.specs.Decoded.{net_of, weights_of, movements_of}
use Rattle.statement.proofs.fleet.Weighing.{Along}
use Rattle.statement.proofs.fleet.voyage.weigh_run.Given as goal

abbrev pub invariant-loop-k : goal.invariant-loop-k
invariant-loop-k l = Along (net_of l.net.sheet.now) (weights_of l.weights) (movements_of l.movements.sheet.now) l.k l.added l.removed
