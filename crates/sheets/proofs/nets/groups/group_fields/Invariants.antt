-- No mode before t is refused, and k arcs stand before it.
use Prim.Native.Nat.{◌≤◌, ◌-◌}
use mathlib.Core.Path.{◌≡◌}
use mathlib.Core.Option.{none}
use Rattle.model.specs.First.{first}
use Rattle.heads.specs.Layout.{arcs_before}
use Rattle.sheets.specs.nets.Groups.{group_refusal}
use Rattle.sheets.proofs.nets.groups.group_fields.Given as goal

abbrev pub invariant-loop-t : goal.invariant-loop-t
invariant-loop-t l = (first l.t (group_refusal l.sheet.bytes.now l.pairs l.base) ≡ none) × (l.k ≡ arcs_before l.sheet.bytes.now l.base l.t) × (l.k ≤ 2048)
