-- No arc before k is refused.
use Prim.Native.Nat.{◌≤◌, ◌-◌}
use mathlib.Core.Path.{◌≡◌}
use mathlib.Core.Option.{none}
use Rattle.model.specs.First.{first}
use Rattle.sheets.specs.nets.Nets.{arc_refusal}
use Rattle.sheets.proofs.nets.arcs.read_arcs.Given as goal

abbrev pub invariant-loop-k : goal.invariant-loop-k
invariant-loop-k l = (first l.k (arc_refusal l.sheet.bytes.now l.modes l.pairs l.start) ≡ none)
