-- A sheet that is accepted has its head.
use Rattle.model.proofs.Refusals.{answer-none}
use Rattle.sheets.proofs.nets.Valid.{headed}
use Rattle.abi.proofs.reading.pnet_read_net.Goals as goal

pub bytes_taken-requires : goal.bytes_taken-requires
bytes_taken-requires c = λ e. headed _ (answer-none _ c.read_net.ensures e)

pub returns : goal.returns
returns c = rw c.read_net.ensures at c.bytes_taken.ensures
