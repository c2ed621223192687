-- The words, and the count's digits.
use mathlib.Core.Path.{ap}
use Prim.Native.Nat.{◌+◌}
use native.Mathlib.Omega.{arith}
use Rattle.export.specs.elements.Sizes.{place_size}
use Rattle.export.proofs.elements.Lengths.{digits-most}
use Rattle.export.proofs.elements.sizes.place_size.Goals as goal

pub overflow_add-result : goal.overflow_add-result
overflow_add-result c = omega (arith, rw c.from.ensures at c.digit_count.ensures, digits-most c.args.count c.requires)

pub returns : goal.returns
unfolding place_size
returns c =
    let digits = rw c.from.ensures at c.digit_count.ensures in
    (ap (λ n. 78 + n) digits, omega (arith, digits, digits-most c.args.count c.requires))
