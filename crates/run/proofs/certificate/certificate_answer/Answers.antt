-- 17, or the run from the first marking and 18.
use mathlib.Core.Path.{sym}
use lib.Seq.{length-take-le}
use Rattle.movement.specs.Runs.{certificate_refusal}
use Rattle.model.proofs.Refusals.{answer-passes, answer_fails}
use Rattle.opened.proofs.Shapes.{sizes}
use Rattle.fire.proofs.Opened.{one_each_lem, not_one-each}
use Rattle.run.proofs.certificate.certificate_answer.Goals as goal

pub returns-then-claim-net : goal.returns-then-claim-net
unfolding certificate_refusal
returns-then-claim-net c =
    answer_fails _ (not_one-each c.args.net.now.is_open _ c.if-claim-net.true) c.refused.ensures

pub slice_bounds-counts-end : goal.slice_bounds-counts-end
slice_bounds-counts-end c = (sizes c.args.net.now.is_open).pairs_within

pub slice_bounds-end_answer-end : goal.slice_bounds-end_answer-end
slice_bounds-end_answer-end c = sym (length-take-le _ _ (sizes c.args.net.now.is_open).pairs_within)

pub end_answer-requires : goal.end_answer-requires
end_answer-requires c = let pre = c.requires in record { claim_len = (c.if-claim-net.false, length-take-le _ _ (sizes c.args.net.now.is_open).pairs_within) }

pub returns : goal.returns
unfolding certificate_refusal
returns c =
    answer-passes _ _ (one_each_lem c.args.net.now.is_open _ c.if-claim-net.false) c.end_answer.ensures
