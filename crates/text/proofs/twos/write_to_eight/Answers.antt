-- The first half has no leading zeros, and the second has all of its digits.
use native.Mathlib.Omega.{arith}
use Rattle.text.proofs.twos.TwoDigits.{decimal-cut}
use Rattle.writes.proofs.Writing.{◌and◌, within}
use Rattle.text.proofs.twos.write_to_eight.Goals as goal

pub returns : goal.returns
returns c =
    rw (decimal-cut 4 c.args.n c.if-n-lt10000.false) (c.write_to_four-middle.ensures and c.write_four.ensures)

pub returns-then-n-lt10000 : goal.returns-then-n-lt10000
returns-then-n-lt10000 c = within c.write_to_four.ensures (omega arith)
