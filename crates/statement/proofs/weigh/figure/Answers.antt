-- The net, then the rest.
use Rattle.statement.specs.weigh.Calls.{figure_refusal}
use Rattle.statement.proofs.weigh.Answers.{figured-stops, figured-goes-on}
use Rattle.model.proofs.Asking.{handed_on}
use Rattle.statement.proofs.weigh.figure.Goals as goal

pub returns-in_err-net : goal.returns-in_err-net
unfolding figure_refusal
returns-in_err-net c = figured-stops _ _ _ c.in_err-net.ensures (handed_on c.from_residual.ensures)

pub returns : goal.returns
unfolding figure_refusal
returns c =
    figured-goes-on _ _ _ c.in_ok-net.ensures.0
    (rw c.in_ok-net.ensures.1 at c.figure_answer.ensures)
