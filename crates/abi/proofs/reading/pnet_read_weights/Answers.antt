-- A sheet that is accepted has its head.
use Rattle.model.proofs.Refusals.{answer-none}
use Rattle.sheets.proofs.Listed.{weights-headed}
use Rattle.abi.proofs.reading.pnet_read_weights.Goals as goal

pub bytes_taken-requires : goal.bytes_taken-requires
bytes_taken-requires c = λ e. weights-headed _ _ (answer-none _ c.read_weights.ensures e)

pub returns : goal.returns
returns c = rw c.read_weights.ensures at c.bytes_taken.ensures
