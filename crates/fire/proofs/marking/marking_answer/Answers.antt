-- One count for each pair, then the counts.
use Rattle.model.specs.Markings.{marking_refusal}
use Rattle.model.proofs.Refusals.{answer-passes, answer_fails}
use Rattle.opened.proofs.Shapes.{sizes}
use Rattle.fire.proofs.Opened.{one_each_lem, not_one-each}
use Rattle.fire.proofs.marking.marking_answer.Goals as goal

pub returns-then-marking-net : goal.returns-then-marking-net
unfolding marking_refusal
returns-then-marking-net c =
    answer_fails _ (not_one-each c.args.net.now.is_open _ c.if-marking-net.true) c.refused.ensures

pub returns : goal.returns
unfolding marking_refusal
returns c =
    answer-passes _ _ (one_each_lem c.args.net.now.is_open _ c.if-marking-net.false) (rw (sizes c.args.net.now.is_open).pairs at c.each_count.ensures)
