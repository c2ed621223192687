-- The first half has no leading zeros, and the second has all of its digits.
use native.Mathlib.Omega.{arith}
use Rattle.text.proofs.twos.TwoDigits.{decimal-cut}
use Rattle.writes.proofs.Writing.{◌and◌, within}
use Rattle.text.proofs.twos.write_to_four.Goals as goal

pub returns : goal.returns
returns c =
    rw (decimal-cut 2 c.args.n c.if-n-lt100.false) (c.write_to_two-middle.ensures and c.write_two.ensures)

pub returns-then-n-lt100 : goal.returns-then-n-lt100
returns-then-n-lt100 c = within c.write_to_two.ensures (omega arith)
