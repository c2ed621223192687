-- The first of the four that is found, or the last.
use mathlib.Core.Path.{◌∙◌, ap}
use Rattle.model.specs.Refusals.{answer}
use Rattle.model.proofs.Asking.{stops, goes_on}
use Rattle.fire.proofs.step.AtPairs.{in_order_lem}
use Rattle.fire.proofs.step.pairs.find_refusal.Goals as goal

pub returns-in_err-find_stop : goal.returns-in_err-find_stop
returns-in_err-find_stop c = stops _ _ c.in_err-find_stop.ensures c.from_residual.ensures ∙ ap answer (in_order_lem _ _ _)

pub returns-in_err-find_stop-2 : goal.returns-in_err-find_stop-2
returns-in_err-find_stop-2 c =
    goes_on _ _ c.in_ok-find_stop.ensures (stops _ _ c.in_err-find_stop-2.ensures c.from_residual-in_err-find_stop-2.ensures)
    ∙ ap answer (in_order_lem _ _ _)

pub returns-in_err-find_stop-3 : goal.returns-in_err-find_stop-3
returns-in_err-find_stop-3 c =
    goes_on _ _ c.in_ok-find_stop.ensures
    (goes_on _ _ c.in_ok-find_stop-2.ensures (stops _ _ c.in_err-find_stop-3.ensures c.from_residual-in_err-find_stop-3.ensures))
    ∙ ap answer (in_order_lem _ _ _)

pub returns : goal.returns
returns c =
    goes_on _ _ c.in_ok-find_stop.ensures
    (goes_on _ _ c.in_ok-find_stop-2.ensures (goes_on _ _ c.in_ok-find_stop-3.ensures c.find_stop-4.ensures))
    ∙ ap answer (in_order_lem _ _ _)
