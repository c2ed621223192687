-- The sheet, then the bytes after it.
use Rattle.model.proofs.Asking.{goes_on, no_refusal, stops}
use Rattle.sheets.specs.Whole.{whole_movements}
use Rattle.sheets.proofs.Listed.{movements-headed}
use Rattle.sheets.proofs.whole.whole_movements.Goals as goal

pub returns-in_err-read_movements : goal.returns-in_err-read_movements
unfolding whole_movements
returns-in_err-read_movements c = stops _ _ c.in_err-read_movements.ensures c.from_residual.ensures

pub bytes_after-requires : goal.bytes_after-requires
bytes_after-requires c = movements-headed _ (no_refusal _ c.in_ok-read_movements.ensures)

pub returns : goal.returns
unfolding whole_movements
returns c = goes_on _ _ c.in_ok-read_movements.ensures c.bytes_after.ensures
