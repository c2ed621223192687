-- Nothing is above an unbounded number.
use borrow.Author.Tests.{eq-eqb}
use Rattle.fields.proofs.Bounds.{bound-unbounded, bound-finite}
use Rattle.fields.proofs.numbers.above_bound.Goals as goal

pub returns-then-x-ne4294967295 : goal.returns-then-x-ne4294967295
returns-then-x-ne4294967295 c = rw (bound-finite _ c.if-x-ne4294967295.true)

pub returns-else-x-ne4294967295 : goal.returns-else-x-ne4294967295
returns-else-x-ne4294967295 c = rw (bound-unbounded _ c.if-x-ne4294967295.false, eq-eqb _ _ c.if-x-ne4294967295.false)
