-- 21, or the figures.
use mathlib.Core.Path.{sym}
use lib.Seq.{length-take-le}
use Rattle.movement.specs.Exclusion.{claim_refusal}
use Rattle.model.proofs.Asking.{goes_on, stops}
use Rattle.opened.proofs.Shapes.{sizes}
use Rattle.statement.proofs.exclude.claim.claim_answer.Goals as goal

pub returns-in_err-each_mode : goal.returns-in_err-each_mode
unfolding claim_refusal
returns-in_err-each_mode c = stops _ _ c.in_err-each_mode.ensures c.from_residual.ensures

pub slice_bounds-counts-end : goal.slice_bounds-counts-end
slice_bounds-counts-end c = (sizes c.args.net.now.is_open).pairs_within

pub slice_bounds-compare_figures-end : goal.slice_bounds-compare_figures-end
slice_bounds-compare_figures-end c =
    sym (length-take-le _ _ (sizes c.args.net.now.is_open).pairs_within)

pub compare_figures-requires : goal.compare_figures-requires
compare_figures-requires c = let pre = c.requires in record { weights_value = pre.weights_value; marking = pre.marking; counts_len = length-take-le _ _ (sizes c.args.net.now.is_open).pairs_within }

pub returns : goal.returns
unfolding claim_refusal
returns c =
    goes_on _ _ c.in_ok-each_mode.ensures c.compare_figures.ensures
