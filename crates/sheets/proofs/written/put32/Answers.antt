use Rattle.sheets.specs.written.Written.{bytes32}
use Rattle.sheets.proofs.written.Puts.{puts}
use Rattle.sheets.proofs.written.put32.Goals as goal

pub returns : goal.returns
unfolding bytes32
returns c = puts c.put16-next.ensures c.put16.ensures
