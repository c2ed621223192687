-- The counts passed make the total so far.
use Prim.Native.Nat.{◌≤◌, ◌-◌, ◌*◌}
use mathlib.Core.Path.{◌≡◌}
use Rattle.heads.specs.Layout.{total_of}
use Rattle.fields.proofs.counts.total_of.Given as goal

abbrev pub invariant-loop-i : goal.invariant-loop-i
invariant-loop-i l = (l.total ≡ total_of l.s l.start l.i) × (l.total ≤ 65536 * l.i)
