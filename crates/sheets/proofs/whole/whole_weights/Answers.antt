-- The sheet, then the bytes after it.
use Rattle.model.proofs.Asking.{goes_on, no_refusal, stops}
use Rattle.sheets.specs.Whole.{whole_weights}
use Rattle.sheets.proofs.Listed.{weights-headed}
use Rattle.sheets.proofs.whole.whole_weights.Goals as goal

pub returns-in_err-read_weights : goal.returns-in_err-read_weights
unfolding whole_weights
returns-in_err-read_weights c = stops _ _ c.in_err-read_weights.ensures c.from_residual.ensures

pub bytes_after-requires : goal.bytes_after-requires
bytes_after-requires c = weights-headed _ _ (no_refusal _ c.in_ok-read_weights.ensures)

pub returns : goal.returns
unfolding whole_weights
returns c = goes_on _ _ c.in_ok-read_weights.ensures c.bytes_after.ensures
