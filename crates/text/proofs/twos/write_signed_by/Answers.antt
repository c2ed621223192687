-- '-' and the digits of its size, or its digits.
use Rattle.writes.proofs.Writing.{within, ◌and◌}
use Rattle.text.proofs.Sizes.{signed_below, signed_not_below, signed-size}
use Rattle.text.proofs.twos.write_signed_by.Goals as goal

pub returns-then-z-lt0 : goal.returns-then-z-lt0
returns-then-z-lt0 c =
    let fits = c.ranges.z in
    let below = signed_below fits c.if-z-lt0.true c.unsigned_abs-n.ensures.value in
    rw below (within (c.write_byte-digits.ensures and c.write_decimal_by.ensures) (rw below at (signed-size fits)))

pub returns : goal.returns
returns c =
    rw (signed_not_below c.ranges.z c.if-z-lt0.false c.unsigned_abs-n.ensures.value) c.write_decimal_by-2.ensures
