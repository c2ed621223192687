-- The test as the definition has it.
use borrow.Author.Tests.{eq-eqb, ne_eqb}
use Rattle.movement.specs.Runs.{elsewhere}
use Rattle.run.proofs.certificate.pair_answer.Goals as goal

pub returns-then-last-p : goal.returns-then-last-p
unfolding elsewhere
returns-then-last-p c = rw (ne_eqb _ _ c.if-last-p.true) c.refused.ensures

pub returns : goal.returns
unfolding elsewhere
returns c = rw (eq-eqb _ _ c.if-last-p.false)
