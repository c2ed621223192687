-- No pair before p differs.
use Prim.Native.Nat.{◌≤◌, ◌-◌}
use mathlib.Core.Path.{◌≡◌}
use mathlib.Core.Option.{none}
use Rattle.model.specs.First.{first}
use Rattle.movement.specs.Runs.{elsewhere}
use Rattle.run.proofs.certificate.compare.Given as goal

abbrev pub invariant-loop-p : goal.invariant-loop-p
invariant-loop-p l = (first l.p (elsewhere l.last l.claim) ≡ none)
