-- No count before i is refused, and they make the total so far.
use Prim.Native.Nat.{◌≤◌, ◌-◌}
use mathlib.Core.Path.{◌≡◌}
use mathlib.Core.Option.{none}
use Rattle.model.specs.First.{first}
use Rattle.heads.specs.Layout.{total_of}
use Rattle.fields.specs.Fields.{running_refusal}
use Rattle.fields.proofs.counts.read_counts.Given as goal

abbrev pub invariant-loop-i : goal.invariant-loop-i
invariant-loop-i l = (first l.i (running_refusal l.sheet.bytes.now l.start) ≡ none) × (l.total ≡ total_of l.sheet.bytes.now l.start l.i) × (l.total ≤ 256)
