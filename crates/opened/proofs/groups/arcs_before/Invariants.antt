-- k arcs stand before those of mode t.
use Prim.Native.Nat.{◌≤◌, ◌-◌}
use Rattle.opened.specs.Shape.{Before}
use Rattle.opened.proofs.groups.arcs_before.Given as goal

abbrev pub invariant-loop-t : goal.invariant-loop-t
invariant-loop-t l = Before l.s l.base l.t l.k
