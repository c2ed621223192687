use borrow.Author.Rules.{rules}
use mathlib.Core.Path.{◌∙◌, ap}
use Rattle.model.specs.First.{first}
use Rattle.model.specs.Refusals.{answer}
use Rattle.model.proofs.Refusals.{answer-first-end}
use Rattle.model.proofs.Asking.{first_goes_on, first_stops}
use Rattle.fire.proofs.step.AtPairs.{stop_is}
use Rattle.fire.proofs.step.pairs.find_stop.Goals as goal

pub loop-p-init : goal.loop-p-init
unfolding first
loop-p-init c = search rules

pub pair_stop-requires : goal.pair_stop-requires
pair_stop-requires c = let pre = c.requires in record { marking = pre.marking; below = pre.below; p_lt_pairs = c.loop-p-test.true }

pub returns-in_err-pair_stop : goal.returns-in_err-pair_stop
returns-in_err-pair_stop c =
    let l = c.loop-p in
    first_stops _ l.p _ c.loop-p-test.true l.invariant c.in_err-pair_stop.ensures c.from_residual.ensures
    ∙ ap answer (stop_is c.args.net.now.is_open _ _ _)

pub loop-p-preserved : goal.loop-p-preserved
loop-p-preserved c =
    first_goes_on _ _ c.loop-p.invariant c.in_ok-pair_stop.ensures

pub returns : goal.returns
returns c =
    answer-first-end _ _ _ c.loop-p.auto.p-end c.loop-p-test.false c.loop-p.invariant
    ∙ ap answer (stop_is c.args.net.now.is_open _ _ _)
