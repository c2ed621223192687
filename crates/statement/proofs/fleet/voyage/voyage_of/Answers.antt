-- The first counts of 256 are lent.
use mathlib.Core.Path.{sym}
use lib.Seq.{length-take-le}
use Rattle.opened.proofs.Shapes.{sizes}
use Rattle.statement.proofs.fleet.voyage.voyage_of.Goals as goal

pub slice_bounds-counts-end : goal.slice_bounds-counts-end
slice_bounds-counts-end c = (sizes c.requires.opened).pairs_within

pub slice_bounds-sail-end : goal.slice_bounds-sail-end
slice_bounds-sail-end c = sym (length-take-le _ _ (sizes c.requires.opened).pairs_within)

pub sail-requires : goal.sail-requires
sail-requires c = let sheets = c.requires in record { read = sheets; marking_len = length-take-le _ _ (sizes sheets.opened).pairs_within }
