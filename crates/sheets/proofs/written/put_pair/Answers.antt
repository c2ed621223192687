use Rattle.sheets.specs.written.Written.{pair_bytes}
use Rattle.sheets.proofs.written.Records.{number_bound}
use Rattle.sheets.proofs.written.Puts.{puts}
use Rattle.sheets.proofs.written.put_pair.Goals as goal

pub returns : goal.returns
unfolding pair_bytes
returns c = rw number_bound (puts c.put32-next.ensures c.put32.ensures)
