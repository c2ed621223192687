-- The test of the bits is the test of the weight's size.
use Prim.Native.Nat.{◌-◌}
use native.Mathlib.Omega.{arith}
use Rattle.sheets.proofs.lists.Signs.{size_below, size_above, same_test}
use Rattle.sheets.proofs.lists.weights.too_heavy.Goals as goal

pub returns-then-x-lt2147483648 : goal.returns-then-x-lt2147483648
returns-then-x-lt2147483648 c = rw (size_below _ c.if-x-lt2147483648.true)

pub returns-else-x-lt2147483648 : goal.returns-else-x-lt2147483648
returns-else-x-lt2147483648 c =
    let x = c.args.x in
    rw (size_above _ c.if-x-lt2147483648.false c.ranges.x.fits)
    (same_test x 4293967296 1000000 (4294967296 - x) (λ h. omega arith) (λ h. omega arith))
