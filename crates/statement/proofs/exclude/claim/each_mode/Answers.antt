use borrow.Author.Rules.{rules}
use native.Mathlib.Omega.{arith}
use Rattle.model.specs.First.{first}
use Rattle.model.proofs.Refusals.{answer-first-end}
use Rattle.model.proofs.Asking.{first_goes_on, first_stops}
use Rattle.opened.proofs.Shapes.{sizes}
use Rattle.statement.proofs.exclude.claim.each_mode.Goals as goal

pub loop-t-init : goal.loop-t-init
unfolding first
loop-t-init c = search rules

pub mode_answer-requires : goal.mode_answer-requires
mode_answer-requires c = let pre = c.requires in record { starts_are = c.starts-table.ensures; weights_value = pre.weights_value; t_lt_modes = c.loop-t-test.true }

pub returns-in_err-mode_answer : goal.returns-in_err-mode_answer
returns-in_err-mode_answer c =
    let l = c.loop-t in
    first_stops _ l.t _ (omega (arith, c.loop-t-test.true, (sizes c.args.net.now.is_open).modes)) l.invariant c.in_err-mode_answer.ensures c.from_residual.ensures

pub loop-t-preserved : goal.loop-t-preserved
loop-t-preserved c = first_goes_on _ _ c.loop-t.invariant c.in_ok-mode_answer.ensures

pub returns : goal.returns
returns c =
    let l = c.loop-t in
    let same = (sizes c.args.net.now.is_open).modes in
    answer-first-end _ l.t _ (omega (arith, l.auto.t-end, same)) (omega (arith, c.loop-t-test.false, same)) l.invariant
