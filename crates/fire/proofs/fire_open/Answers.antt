-- The marking, 6, or what firing the mode's arcs gives.
use Rattle.opened.proofs.Segments.{segment-own}
use Rattle.fire.proofs.firing.ByMode.{at-mode, mode-refusal}
use Rattle.leaving.proofs.Leaving.{leaves-stops, leaves-goes-on}
use Rattle.fire.proofs.Opened.{is-there}
use Rattle.fire.proofs.fire_open.Goals as goal

pub returns-in_err-marking_answer : goal.returns-in_err-marking_answer
returns-in_err-marking_answer c = leaves-stops _ _ c.in_err-marking_answer.ensures c.from_residual.ensures

pub returns-in_err-mode_answer : goal.returns-in_err-mode_answer
returns-in_err-mode_answer c =
    leaves-goes-on _ _ c.in_ok-marking_answer.ensures
    (rw (← mode-refusal c.args.net.now.is_open) (leaves-stops _ _ c.in_err-mode_answer.ensures c.from_residual-in_err-mode_answer.ensures))

pub find_arcs-arcs-requires : goal.find_arcs-arcs-requires
find_arcs-arcs-requires c = record { mode_lt_modes = is-there _ _ _ c.in_ok-mode_answer.ensures }

pub fire_arcs-requires : goal.fire_arcs-requires
fire_arcs-requires c =
    at-mode c.args.net.now.is_open c.in_ok-marking_answer.ensures c.find_arcs-arcs.ensures

pub returns : goal.returns
returns c =
    leaves-goes-on _ _ c.in_ok-marking_answer.ensures
    (rw (← mode-refusal c.args.net.now.is_open)
    (leaves-goes-on _ _ c.in_ok-mode_answer.ensures
    (c.fire_arcs.ensures _ (segment-own c.find_arcs-arcs.ensures))))
