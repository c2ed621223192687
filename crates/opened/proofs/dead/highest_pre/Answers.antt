-- The lesser of two numbers is the lesser of two bounds.
use native.Mathlib.Omega.{arith}
use Rattle.fields.proofs.BoundNumbers.{least_bounds}
use Rattle.opened.proofs.dead.highest_pre.Goals as goal

pub returns : goal.returns
returns c =
    rw c.min.ensures (least_bounds _ _ (omega (arith, c.ranges.room)) (omega (arith, c.ranges.inhibitor)))
