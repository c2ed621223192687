-- No arc of the mode before the i-th is refused.
use Prim.Native.Nat.{◌+◌}
use mathlib.Core.Path.{◌≡◌}
use mathlib.Core.Option.{none}
use Rattle.model.specs.First.{first}
use Rattle.complement.specs.ArcRefusals.{inhibited_at}
use Rattle.complement.proofs.refusals.mode_answer.Given as goal

abbrev pub invariant-loop-i : goal.invariant-loop-i
invariant-loop-i l = (first l.i (λ k. inhibited_at l.net.sheet.now (l.arcs.start + k)) ≡ none)
