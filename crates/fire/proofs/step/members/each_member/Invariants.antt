-- No member before i is refused.
use Prim.Native.Nat.{◌≤◌, ◌-◌}
use mathlib.Core.Path.{◌≡◌}
use mathlib.Core.Option.{none}
use Rattle.model.specs.First.{first}
use Rattle.fire.specs.step.Parts.{member_absent}
use Rattle.fire.proofs.step.members.each_member.Given as goal

abbrev pub invariant-loop-mode : goal.invariant-loop-mode
invariant-loop-mode l = (first l.mode-index (member_absent l.net.modes l.modes) ≡ none)
