-- What the call says that it wrote lies within the slice that it was lent.
use mathlib.Core.Path.{sym}
use lib.Seq.{length-take-le}
use Rattle.statement.proofs.Stating.{written-within}
use Rattle.replay.proofs.main.Goals as goal

pub slice_bounds-out-end : goal.slice_bounds-out-end
slice_bounds-out-end c = written-within _ _ c.statement.ensures c.in-Ok.is

pub slice_bounds-write_all-end : goal.slice_bounds-write_all-end
slice_bounds-write_all-end c = sym (length-take-le _ _ (written-within _ _ c.statement.ensures c.in-Ok.is))
