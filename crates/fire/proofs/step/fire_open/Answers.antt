-- The marking, 4, 6, or what firing the members gives.
use Rattle.model.proofs.Asking.{no_refusal}
use Rattle.movement.proofs.Markings.{marking-test}
use Rattle.leaving.proofs.Leaving.{leaves-stops, leaves-goes-on}
use Rattle.fire.proofs.step.Summing.{members_met, step-refusal}
use Rattle.fire.proofs.step.fire_open.Goals as goal

pub returns-in_err-marking_answer : goal.returns-in_err-marking_answer
returns-in_err-marking_answer c = leaves-stops _ _ c.in_err-marking_answer.ensures c.from_residual.ensures

pub returns-in_err-members_answer : goal.returns-in_err-members_answer
returns-in_err-members_answer c =
    leaves-goes-on _ _ c.in_ok-marking_answer.ensures
    (rw (← step-refusal c.args.net.now.is_open) (leaves-stops _ _ c.in_err-members_answer.ensures c.from_residual-in_err-members_answer.ensures))

pub fire_members-requires : goal.fire_members-requires
fire_members-requires c = record { marking = (marking-test _ _).0 (no_refusal _ c.in_ok-marking_answer.ensures); members = members_met _ _ c.in_ok-members_answer.ensures }

pub returns : goal.returns
returns c =
    leaves-goes-on _ _ c.in_ok-marking_answer.ensures
    (rw (← step-refusal c.args.net.now.is_open)
    (leaves-goes-on _ _ c.in_ok-members_answer.ensures c.fire_members.ensures))
