-- '-' and the digits of its size, or its digits.
use mathlib.Core.Path.{ap}
use lib.ListN.{length}
use native.Mathlib.Omega.{arith}
use Rattle.writes.proofs.Writing.{within, ◌and◌}
use Rattle.text.proofs.Sizes.{signed_below, signed_not_below, signed-size}
use Rattle.text.proofs.digits.write_signed.Goals as goal

pub write_byte-digits-requires : goal.write_byte-digits-requires
write_byte-digits-requires c =
    omega (arith, ap length (signed_below c.ranges.z c.if-z-lt0.true c.unsigned_abs-n.ensures.value), c.requires)

pub write_decimal-requires : goal.write_decimal-requires
write_decimal-requires c =
    omega (arith, ap length (signed_below c.ranges.z c.if-z-lt0.true c.unsigned_abs-n.ensures.value), c.requires)

pub returns-then-z-lt0 : goal.returns-then-z-lt0
returns-then-z-lt0 c =
    let fits = c.ranges.z in
    let below = signed_below fits c.if-z-lt0.true c.unsigned_abs-n.ensures.value in
    rw below (within (c.write_byte-digits.ensures and c.write_decimal.ensures) (rw below at (signed-size fits)))

pub write_decimal-requires-2 : goal.write_decimal-requires-2
write_decimal-requires-2 c =
    rw (signed_not_below c.ranges.z c.if-z-lt0.false c.unsigned_abs-n.ensures.value) at c.requires

pub returns : goal.returns
returns c = rw (signed_not_below c.ranges.z c.if-z-lt0.false c.unsigned_abs-n.ensures.value) c.write_decimal-2.ensures
