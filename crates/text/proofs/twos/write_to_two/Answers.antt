-- One digit, or two.
use native.Mathlib.Omega.{arith}
use Rattle.text.proofs.Decimals.{below-ten}
use Rattle.text.proofs.twos.TwoDigits.{two_digits}
use Rattle.writes.proofs.Writing.{within}
use Rattle.text.proofs.twos.write_to_two.Goals as goal

pub returns-then-n-lt10 : goal.returns-then-n-lt10
returns-then-n-lt10 c =
    rw (below-ten c.args.n c.if-n-lt10.true) (within c.write_byte.ensures (omega arith))

pub returns : goal.returns
returns c =
    rw (two_digits c.args.n c.if-n-lt10.false c.requires.n_bound) c.write_two.ensures
