-- The weight sheet, or what stands in the part after it.
use Rattle.model.proofs.Refusals.{answer-none}
use Rattle.sheets.proofs.Listed.{weights-headed}
use Rattle.opened.proofs.Shapes.{sizes}
use Rattle.statement.specs.Replay.{weights_text}
use Rattle.statement.proofs.Texts.{bad_told, text-told}
use Rattle.statement.proofs.input.put_weight_sheet.Goals as goal

pub returns-in-Err : goal.returns-in-Err
unfolding weights_text
returns-in-Err c =
    rw (← (sizes c.args.net.now.is_open).pairs)
    (bad_told _ _ c.read_weights-answer.ensures c.in-Err.is c.put_bad.ensures)

pub after-requires : goal.after-requires
after-requires c = λ e. weights-headed _ _ (answer-none _ c.read_weights-answer.ensures e)

pub put_movement_sheet-requires : goal.put_movement_sheet-requires
put_movement_sheet-requires c = record { weights_value = answer-none _ c.read_weights-answer.ensures c.in_default.is; room_in_bounds = c.requires.room_in_bounds }

pub returns : goal.returns
unfolding weights_text
returns c =
    rw (← (sizes c.args.net.now.is_open).pairs, ← c.read_weights-answer.ensures, ← c.after.ensures)
    (text-told _ _ c.read_weights-answer.ensures c.in_default.is c.put_movement_sheet.ensures)
