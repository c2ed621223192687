use mathlib.Core.Path.{sym, ◌∙◌, ap}
use native.Mathlib.Omega.{arith}
use Rattle.model.specs.Refusals.{answer}
use Rattle.model.proofs.First.{first-none}
use Rattle.model.proofs.Refusals.{answer-first-end}
use Rattle.model.proofs.Asking.{first_goes_on, first_stops}
use Rattle.opened.proofs.Shapes.{sizes}
use Rattle.export.proofs.Answers.{each-capacity}
use Rattle.export.proofs.bounds.capacities_answer.Goals as goal

pub returns-in_err-capacity_answer : goal.returns-in_err-capacity_answer
returns-in_err-capacity_answer c =
    let l = c.loop-p in
    first_stops _ l.p _ c.loop-p-test.true l.invariant c.in_err-capacity_answer.ensures c.from_residual.ensures ∙ ap answer (each-capacity c.args.net.now.is_open)

pub loop-p-preserved : goal.loop-p-preserved
loop-p-preserved c = first_goes_on _ _ c.loop-p.invariant c.in_ok-capacity_answer.ensures

pub returns : goal.returns
returns c = answer-first-end _ _ _ c.loop-p.auto.p-end c.loop-p-test.false c.loop-p.invariant ∙ ap answer (each-capacity c.args.net.now.is_open)

pub loop-p-init : goal.loop-p-init
loop-p-init c = sym (first-none _)

pub overflow_cast-p : goal.overflow_cast-p
overflow_cast-p c = omega (arith, (sizes c.args.net.now.is_open).pairs_within)
