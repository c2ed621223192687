use borrow.Author.Rules.{rules}
use Rattle.model.specs.First.{first}
use Rattle.model.proofs.Refusals.{answer-first-end}
use Rattle.model.proofs.Asking.{first_goes_on, first_stops}
use Rattle.sheets.proofs.lists.weights.each_weight.Goals as goal

pub loop-p-init : goal.loop-p-init
unfolding first
loop-p-init c = search rules

pub returns-in_err-read_weight : goal.returns-in_err-read_weight
returns-in_err-read_weight c =
    let l = c.loop-p in
    first_stops _ l.p _ c.loop-p-test.true l.invariant c.in_err-read_weight.ensures c.from_residual.ensures

pub loop-p-preserved : goal.loop-p-preserved
loop-p-preserved c =
    first_goes_on _ _ c.loop-p.invariant c.in_ok-read_weight.ensures

pub returns : goal.returns
returns c = answer-first-end _ _ _ c.loop-p.auto.p-end c.loop-p-test.false c.loop-p.invariant
