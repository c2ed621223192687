-- The weights, then the marking, then the sum.
use borrow.Author.Rules.{rules}
use mathlib.Core.Path.{sym}
use Rattle.movement.proofs.Markings.{marking-test}
use Rattle.model.proofs.Refusals.{answer-refused}
use Rattle.model.proofs.Asking.{handed_on, no_refusal}
use Rattle.statement.proofs.weigh.Answers.{figured-stops, figured-goes-on, figured-refused, figured-is, weights-refused, weights-pass, weights-accepted}
use Rattle.statement.proofs.weigh.figure_answer.Goals as goal

pub returns-in_err-whole_weights : goal.returns-in_err-whole_weights
returns-in_err-whole_weights c =
    figured-stops _ _ _ (weights-refused c.args.net.now.is_open _ c.in_err-whole_weights.ensures) (handed_on c.from_residual.ensures)

pub returns-in_err-marking_answer : goal.returns-in_err-marking_answer
returns-in_err-marking_answer c =
    figured-goes-on _ _ _ (weights-pass c.args.net.now.is_open _ c.in_ok-whole_weights.ensures)
    (figured-refused _ (answer-refused _ (sym c.in_err-marking_answer.ensures)) (handed_on c.from_residual-in_err-marking_answer.ensures))

pub figure_of-requires : goal.figure_of-requires
figure_of-requires c = record { weights_value = weights-accepted c.args.net.now.is_open _ c.in_ok-whole_weights.ensures; marking = (marking-test _ _).0 (no_refusal _ c.in_ok-marking_answer.ensures) }

pub returns : goal.returns
returns c =
    figured-goes-on _ _ _ (weights-pass c.args.net.now.is_open _ c.in_ok-whole_weights.ensures)
    (figured-is c.figure_of.type_inv c.figure_of.ensures (no_refusal _ c.in_ok-marking_answer.ensures))
