-- A signed number is its decimal, or '-' and the decimal of its size.
use Rattle.text.proofs.Sizes.{signed_below, signed_not_below}
use Rattle.text.proofs.put_signed.Goals as goal

pub returns-then-z-lt0 : goal.returns-then-z-lt0
returns-then-z-lt0 c =
    let put = c.put_negative.ensures in
    rw (signed_below c.ranges.z c.if-z-lt0.true c.unsigned_abs.ensures.value) (put.value, put.out_after)

pub returns-else-z-lt0 : goal.returns-else-z-lt0
returns-else-z-lt0 c =
    rw (signed_not_below c.ranges.z c.if-z-lt0.false c.unsigned_abs-else-z-lt0.ensures.value) c.put_decimal.ensures
