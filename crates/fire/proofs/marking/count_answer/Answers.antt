-- The two tests as the definition has them.
use borrow.Author.Tests.{lt-ltb, le-ltb}
use mathlib.Core.Path.{sym, ◌∙◌}
use native.Mathlib.Omega.{arith}
use Rattle.model.proofs.Refusals.{answer-passes, answer_fails}
use Rattle.opened.proofs.Shapes.{sizes}
use Rattle.fire.proofs.marking.count_answer.Goals as goal

pub overflow_cast-pair : goal.overflow_cast-pair
overflow_cast-pair c = omega (arith, (sizes c.args.net.now.is_open).pairs_within)

pub returns-then-count-gt1000000 : goal.returns-then-count-gt1000000
returns-then-count-gt1000000 c = answer_fails _ (lt-ltb _ _ c.if-count-gt1000000.true) c.refused.ensures

pub returns-then-above_bound : goal.returns-then-above_bound
returns-then-above_bound c =
    let above = rw c.capacity.ensures at c.above_bound.ensures in
    answer-passes _ _ (le-ltb _ _ c.if-count-gt1000000.false) (rw (sym above ∙ c.if-above_bound.true) c.refused-then-above_bound.ensures)

pub returns : goal.returns
returns c =
    let above = rw c.capacity.ensures at c.above_bound.ensures in
    answer-passes _ _ (le-ltb _ _ c.if-count-gt1000000.false) (rw (sym above ∙ c.if-above_bound.false))
