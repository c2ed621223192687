use borrow.Author.Rules.{rules}
use Rattle.model.specs.First.{first}
use Rattle.model.proofs.Asking.{first_goes_on, first_stops}
use Rattle.model.proofs.Refusals.{answer-first-end}
use Rattle.fire.proofs.step.members.each_member.Goals as goal

pub loop-mode-init : goal.loop-mode-init
unfolding first
loop-mode-init c = search rules

pub returns-in_err-mode_answer : goal.returns-in_err-mode_answer
returns-in_err-mode_answer c =
    let l = c.loop-mode in
    first_stops _ l.mode-index _ c.loop-mode-test.true l.invariant c.in_err-mode_answer.ensures c.from_residual.ensures

pub loop-mode-preserved : goal.loop-mode-preserved
loop-mode-preserved c = first_goes_on _ _ c.loop-mode.invariant c.in_ok-mode_answer.ensures

pub returns : goal.returns
returns c = answer-first-end _ _ _ c.loop-mode.auto.mode-index-end c.loop-mode-test.false c.loop-mode.invariant
