-- No I of the mode's arcs before the i-th is finite.
use Prim.Native.Nat.{◌+◌}
use mathlib.Core.Path.{◌≡◌}
use mathlib.Core.Option.{none}
use Rattle.model.specs.First.{first}
use Rattle.export.specs.Bounds.{inhibitor_refusal}
use Rattle.export.proofs.bounds.mode_answer.Given as goal

abbrev pub invariant-loop-i : goal.invariant-loop-i
invariant-loop-i l = (first l.i (λ k. inhibitor_refusal l.net.sheet.now (l.arcs.start + k)) ≡ none)
