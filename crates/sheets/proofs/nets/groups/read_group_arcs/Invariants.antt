-- No arc before k is refused.
use Prim.Native.Nat.{◌≤◌, ◌-◌}
use mathlib.Core.Path.{◌≡◌}
use mathlib.Core.Option.{none}
use Rattle.model.specs.First.{first}
use Rattle.sheets.specs.nets.Groups.{group_arc_refusal}
use Rattle.sheets.proofs.nets.groups.read_group_arcs.Given as goal

abbrev pub invariant-loop-i : goal.invariant-loop-i
invariant-loop-i l = (first l.i (group_arc_refusal l.sheet.bytes.now l.pairs l.start) ≡ none)
