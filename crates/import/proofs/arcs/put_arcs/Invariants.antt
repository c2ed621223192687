-- Line by line, until the closing.
use Prim.Native.Nat.{◌-◌}
use lib.ListN.{length}
use Rattle.import.proofs.Loops.{ArcsSoFar}
use Rattle.import.proofs.arcs.put_arcs.Given as goal

abbrev pub invariant-loop-after : goal.invariant-loop-after
invariant-loop-after l = ArcsSoFar l.s l.initial.out l.at l.out l.state l.read l.next

abbrev pub decreases-loop-after : goal.decreases-loop-after
decreases-loop-after l = length l.s - l.read
