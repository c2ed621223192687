-- The marking, 4, 6, or what the sums give.
use Rattle.model.proofs.Asking.{goes_on, no_refusal, stops}
use Rattle.movement.proofs.Markings.{marking-test}
use Rattle.fire.proofs.step.Summing.{members_met, step-refusal}
use Rattle.fire.proofs.step.test_open.Goals as goal

pub returns-in_err-marking_answer : goal.returns-in_err-marking_answer
returns-in_err-marking_answer c = stops _ _ c.in_err-marking_answer.ensures c.from_residual.ensures

pub returns-in_err-members_answer : goal.returns-in_err-members_answer
returns-in_err-members_answer c =
    goes_on _ _ c.in_ok-marking_answer.ensures
    (rw (← step-refusal c.args.net.now.is_open) (stops _ _ c.in_err-members_answer.ensures c.from_residual-in_err-members_answer.ensures))

pub test_members-requires : goal.test_members-requires
test_members-requires c = record { marking = (marking-test _ _).0 (no_refusal _ c.in_ok-marking_answer.ensures); members = members_met _ _ c.in_ok-members_answer.ensures }

pub returns : goal.returns
returns c =
    goes_on _ _ c.in_ok-marking_answer.ensures
    (rw (← step-refusal c.args.net.now.is_open)
    (goes_on _ _ c.in_ok-members_answer.ensures c.test_members.ensures))
