-- Place by place, until another line.
use Prim.Native.Nat.{◌-◌}
use lib.ListN.{length}
use Rattle.import.proofs.Loops.{PlacesSoFar}
use Rattle.import.proofs.places.put_places.Given as goal

abbrev pub invariant-loop-after : goal.invariant-loop-after
invariant-loop-after l = PlacesSoFar l.s l.initial.out l.at l.out l.state l.read l.next

abbrev pub decreases-loop-after : goal.decreases-loop-after
decreases-loop-after l = length l.s - l.read
