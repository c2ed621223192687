-- The part after the sheet, by its answer.
use Rattle.model.proofs.Refusals.{answer-none}
use Rattle.sheets.proofs.nets.Valid.{headed}
use Rattle.sheets.proofs.whole.after_net.Goals as goal

pub after-requires : goal.after-requires
after-requires c = λ e. headed _ (answer-none _ c.read_net.ensures e)

pub returns : goal.returns
returns c = rw c.read_net.ensures at c.after.ensures
