-- The part after the sheet, by its answer.
use Rattle.model.proofs.Refusals.{answer-none}
use Rattle.sheets.proofs.Listed.{movements-headed}
use Rattle.sheets.proofs.whole.after_movements.Goals as goal

pub after-requires : goal.after-requires
after-requires c = λ e. movements-headed _ (answer-none _ c.read_movements.ensures e)

pub returns : goal.returns
returns c = rw c.read_movements.ensures at c.after.ensures
