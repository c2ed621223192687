-- The first half has no leading zeros, and the second has all of its digits.
use native.Mathlib.Omega.{arith}
use Rattle.text.proofs.Decimals.{length-at-most}
use Rattle.text.proofs.twos.TwoDigits.{decimal-cut}
use Rattle.writes.proofs.Writing.{◌and◌, within}
use Rattle.text.proofs.twos.write_long.Goals as goal

pub returns-then-high-lt100000000 : goal.returns-then-high-lt100000000
returns-then-high-lt100000000 c =
    let written = c.write_to_eight-middle.ensures and c.write_eight.ensures in
    rw (decimal-cut 8 c.args.n c.requires.le_n) (within written (omega (arith, written.within)))

pub write_decimal-requires : goal.write_decimal-requires
write_decimal-requires c = omega (arith, length-at-most c.args.n 19 (omega arith))
