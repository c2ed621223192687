-- 6, or what is found at the mode's arcs.
use Rattle.model.proofs.Asking.{goes_on, stops}
use Rattle.opened.proofs.Segments.{segment-own}
use Rattle.fire.proofs.firing.ByMode.{mode-refusal}
use Rattle.fire.proofs.Opened.{is-there}
use Rattle.run.proofs.movements.refusal_of.Goals as goal

pub returns-in_err-mode_answer : goal.returns-in_err-mode_answer
returns-in_err-mode_answer c =
    rw (← mode-refusal c.args.net.now.is_open) (stops _ _ c.in_err-mode_answer.ensures c.from_residual.ensures)

pub arcs_of-arcs-requires : goal.arcs_of-arcs-requires
arcs_of-arcs-requires c = record { starts_are = c.requires.starts_are; mode_lt_modes = is-there _ _ _ c.in_ok-mode_answer.ensures }

pub returns : goal.returns
returns c =
    rw (← mode-refusal c.args.net.now.is_open)
    (goes_on _ _ c.in_ok-mode_answer.ensures
    (c.find_refusal.ensures _ (segment-own c.arcs_of-arcs.ensures)))
