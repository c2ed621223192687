-- As many counts as the net has pairs.
use mathlib.Core.Path.{sym}
use lib.Seq.{length-take-le}
use Rattle.opened.proofs.Shapes.{sizes}
use Rattle.run.proofs.salvage.trial.run_considered.Goals as goal

pub slice_bounds-counts-end : goal.slice_bounds-counts-end
slice_bounds-counts-end c = (sizes c.args.net.now.is_open).pairs_within

pub slice_bounds-run_from_first-end : goal.slice_bounds-run_from_first-end
slice_bounds-run_from_first-end c = sym (length-take-le _ _ (sizes c.args.net.now.is_open).pairs_within)

pub run_from_first-requires : goal.run_from_first-requires
run_from_first-requires c = let pre = c.requires in record { legible = pre.legible; count_value = pre.count_value; marking_len = length-take-le _ _ (sizes c.args.net.now.is_open).pairs_within }
