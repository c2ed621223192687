-- The sheet, then the bytes after it.
use Rattle.model.proofs.Asking.{goes_on, no_refusal, stops}
use Rattle.sheets.specs.Whole.{whole_net}
use Rattle.sheets.proofs.nets.Valid.{headed}
use Rattle.sheets.proofs.whole.whole_net.Goals as goal

pub returns-in_err-read_net : goal.returns-in_err-read_net
unfolding whole_net
returns-in_err-read_net c = stops _ _ c.in_err-read_net.ensures c.from_residual.ensures

pub bytes_after-requires : goal.bytes_after-requires
bytes_after-requires c = headed _ (no_refusal _ c.in_ok-read_net.ensures)

pub returns : goal.returns
unfolding whole_net
returns c = goes_on _ _ c.in_ok-read_net.ensures c.bytes_after.ensures
