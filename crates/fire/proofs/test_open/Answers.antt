-- The marking, 6, or what the mode's row gives.
use Rattle.model.proofs.Asking.{goes_on, stops}
use Rattle.opened.proofs.Segments.{segment-own}
use Rattle.fire.proofs.firing.ByMode.{at-mode, mode-refusal}
use Rattle.fire.proofs.Opened.{is-there}
use Rattle.fire.proofs.test_open.Goals as goal

pub returns-in_err-marking_answer : goal.returns-in_err-marking_answer
returns-in_err-marking_answer c = stops _ _ c.in_err-marking_answer.ensures c.from_residual.ensures

pub returns-in_err-mode_answer : goal.returns-in_err-mode_answer
returns-in_err-mode_answer c =
    goes_on _ _ c.in_ok-marking_answer.ensures
    (rw (← mode-refusal c.args.net.now.is_open) (stops _ _ c.in_err-mode_answer.ensures c.from_residual-in_err-mode_answer.ensures))

pub find_arcs-requires : goal.find_arcs-requires
find_arcs-requires c = record { mode_lt_modes = is-there _ _ _ c.in_ok-mode_answer.ensures }

pub row_answer-requires : goal.row_answer-requires
row_answer-requires c =
    at-mode c.args.net.now.is_open c.in_ok-marking_answer.ensures c.find_arcs.ensures

pub returns : goal.returns
returns c =
    goes_on _ _ c.in_ok-marking_answer.ensures
    (rw (← mode-refusal c.args.net.now.is_open)
    (goes_on _ _ c.in_ok-mode_answer.ensures
    (c.row_answer.ensures _ (segment-own c.find_arcs.ensures))))
