-- No mode before t is unbalanced.
use mathlib.Core.Path.{◌≡◌}
use mathlib.Core.Option.{none}
use Rattle.model.specs.First.{first}
use Rattle.movement.specs.Exclusion.{unbalanced_at}
use Rattle.sheets.specs.Decoded.{net_of, weights_of}
use Rattle.statement.proofs.exclude.claim.each_mode.Given as goal

abbrev pub invariant-loop-t : goal.invariant-loop-t
invariant-loop-t l = (first l.t (unbalanced_at (net_of l.net.sheet.now) (weights_of l.weights)) ≡ none)
