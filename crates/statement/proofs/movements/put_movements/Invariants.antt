-- k movements have been told, and the lines that are left from here complete the whole.
use mathlib.Core.Path.{◌≡◌}
use lib.ListN.{length}
use Rattle.sheets.specs.Decoded.{net_of, weights_of, movements_of}
use Rattle.statement.proofs.Telling.{Along}
use Rattle.statement.proofs.movements.put_movements.Given as goal

abbrev pub invariant-loop-k : goal.invariant-loop-k
invariant-loop-k l =
    (length l.out ≡ length l.initial.out) × Along (net_of l.net.sheet.now) (weights_of l.weights) (movements_of l.movements.sheet.now) l.initial.out l.at l.k l.figure l.end l.out
