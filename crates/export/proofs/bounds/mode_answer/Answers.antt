use mathlib.Core.Path.{sym}
use Rattle.model.proofs.First.{first-none}
use Rattle.model.proofs.Asking.{first_goes_on, first_stops}
use Rattle.export.proofs.bounds.mode_answer.Goals as goal

pub returns-in_err-inhibitor_answer : goal.returns-in_err-inhibitor_answer
returns-in_err-inhibitor_answer c =
    let l = c.loop-i in
    first_stops _ l.i _ c.loop-i-test.true l.invariant c.in_err-inhibitor_answer.ensures c.from_residual.ensures

pub loop-i-preserved : goal.loop-i-preserved
loop-i-preserved c = first_goes_on _ _ c.loop-i.invariant c.in_ok-inhibitor_answer.ensures

pub loop-i-init : goal.loop-i-init
loop-i-init c = sym (first-none _)
