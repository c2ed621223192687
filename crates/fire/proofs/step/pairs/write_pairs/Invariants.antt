-- The pairs before p have been written, and the others are as they were.
use Prim.Native.Nat.{◌≤◌, ◌-◌}
use mathlib.Core.Path.{◌≡◌}
use lib.ListN.{length}
use Rattle.fire.specs.step.Sums.{sums_at}
use Rattle.fire.proofs.step.AtPairs.{Moved}
use Rattle.fire.proofs.step.pairs.write_pairs.Given as goal

abbrev pub invariant-loop-p : goal.invariant-loop-p
invariant-loop-p l = Moved (sums_at l.sums) l.p l.initial.marking l.marking
