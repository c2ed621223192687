-- The first of the four that is found, or the last.
use mathlib.Core.Path.{◌∙◌, ap}
use Rattle.model.specs.Refusals.{answer}
use Rattle.model.proofs.Asking.{stops, goes_on}
use Rattle.fire.proofs.firing.ByMode.{in_order_lem}
use Rattle.fire.proofs.firing.mode.find_refusal.Goals as goal

pub returns-in_err-find_stop : goal.returns-in_err-find_stop
returns-in_err-find_stop c = λ t own.
    stops _ _ (c.in_err-find_stop.ensures t own) c.from_residual.ensures ∙ ap answer (in_order_lem _ _ _ t)

pub returns-in_err-find_stop-2 : goal.returns-in_err-find_stop-2
returns-in_err-find_stop-2 c = λ t own.
    goes_on _ _ (c.in_ok-find_stop.ensures t own)
    (stops _ _ (c.in_err-find_stop-2.ensures t own) c.from_residual-in_err-find_stop-2.ensures)
    ∙ ap answer (in_order_lem _ _ _ t)

pub returns-in_err-find_stop-3 : goal.returns-in_err-find_stop-3
returns-in_err-find_stop-3 c = λ t own.
    goes_on _ _ (c.in_ok-find_stop.ensures t own)
    (goes_on _ _ (c.in_ok-find_stop-2.ensures t own)
    (stops _ _ (c.in_err-find_stop-3.ensures t own) c.from_residual-in_err-find_stop-3.ensures))
    ∙ ap answer (in_order_lem _ _ _ t)

pub returns : goal.returns
returns c = λ t own.
    goes_on _ _ (c.in_ok-find_stop.ensures t own)
    (goes_on _ _ (c.in_ok-find_stop-2.ensures t own)
    (goes_on _ _ (c.in_ok-find_stop-3.ensures t own) (c.find_stop-4.ensures t own)))
    ∙ ap answer (in_order_lem _ _ _ t)
