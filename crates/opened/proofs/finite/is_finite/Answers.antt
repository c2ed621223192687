-- The largest number of 4 bytes is the one that is not finite.
use Rattle.opened.proofs.FiniteNumbers.{finite_is}
use Rattle.opened.proofs.finite.is_finite.Goals as goal

pub returns : goal.returns
returns c = finite_is c.args.x
