-- No K of a pair before the p-th is finite.
use mathlib.Core.Path.{◌≡◌}
use mathlib.Core.Option.{none}
use Rattle.model.specs.First.{first}
use Rattle.export.specs.Bounds.{capacity_refusal}
use Rattle.export.proofs.bounds.capacities_answer.Given as goal

abbrev pub invariant-loop-p : goal.invariant-loop-p
invariant-loop-p l = (first l.p (capacity_refusal l.net.sheet.now) ≡ none)
