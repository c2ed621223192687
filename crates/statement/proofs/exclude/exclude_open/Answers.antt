-- The weights, the claim, or what is left to test of it.
use Rattle.model.proofs.Asking.{goes_on, no_refusal, stops}
use Rattle.movement.proofs.Markings.{marking-test}
use Rattle.opened.proofs.Shapes.{sizes}
use Rattle.statement.proofs.weigh.Answers.{weights-accepted}
use Rattle.statement.proofs.exclude.exclude_open.Goals as goal

pub returns-in_err-whole_weights : goal.returns-in_err-whole_weights
returns-in_err-whole_weights c =
    stops _ _ (rw (sizes c.args.net.now.is_open).pairs at c.in_err-whole_weights.ensures) c.from_residual.ensures

pub returns-in_err-marking_answer : goal.returns-in_err-marking_answer
returns-in_err-marking_answer c =
    goes_on _ _ (rw (sizes c.args.net.now.is_open).pairs at c.in_ok-whole_weights.ensures)
    (stops _ _ c.in_err-marking_answer.ensures c.from_residual-in_err-marking_answer.ensures)

pub claim_answer-requires : goal.claim_answer-requires
claim_answer-requires c = record { weights_value = weights-accepted c.args.net.now.is_open _ c.in_ok-whole_weights.ensures; marking = (marking-test _ _).0 (no_refusal _ c.in_ok-marking_answer.ensures) }

pub returns : goal.returns
returns c =
    goes_on _ _ (rw (sizes c.args.net.now.is_open).pairs at c.in_ok-whole_weights.ensures)
    (goes_on _ _ c.in_ok-marking_answer.ensures c.claim_answer.ensures)
