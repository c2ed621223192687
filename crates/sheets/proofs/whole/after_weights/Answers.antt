-- The part after the sheet, by its answer.
use Rattle.model.proofs.Refusals.{answer-none}
use Rattle.sheets.proofs.Listed.{weights-headed}
use Rattle.sheets.proofs.whole.after_weights.Goals as goal

pub after-requires : goal.after-requires
after-requires c = λ e. weights-headed _ _ (answer-none _ c.read_weights.ensures e)

pub returns : goal.returns
returns c = rw c.read_weights.ensures at c.after.ensures
