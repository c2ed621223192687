-- The number that means unbounded is no less than K.
use Prim.Native.Nat.{◌-◌}
use mathlib.Core.Path.{◌≡◌, ◌∙◌}
use native.Mathlib.Omega.{arith}
use Rattle.counterpart.proofs.Entries.{reserve-less}
use Rattle.counterpart.proofs.reserved.Goals as goal

pub overflow_sub-result : goal.overflow_sub-result
overflow_sub-result c = omega (arith, c.max.ensures)

pub returns : goal.returns
returns c =
    let less : c.max.result - c.args.inhibitor ≡ c.args.capacity - c.args.inhibitor = omega (arith, c.max.ensures) in
    less ∙ reserve-less _ _ (omega (arith, c.ranges.capacity))
