-- The movement sheet and the bytes after it, or the run.
use mathlib.Core.Path.{sym}
use lib.Seq.{length-take-le}
use Rattle.model.proofs.First.{left-none}
use Rattle.model.proofs.Refusals.{answer-none}
use Rattle.sheets.specs.Whole.{whole_movements}
use Rattle.opened.proofs.Shapes.{sizes}
use Rattle.statement.specs.Replay.{movements_text}
use Rattle.statement.proofs.Texts.{bad_told, text-told}
use Rattle.statement.proofs.input.put_movement_sheet.Goals as goal

pub returns-in-Err : goal.returns-in-Err
unfolding movements_text
returns-in-Err c =
    bad_told _ _ c.whole_movements-answer.ensures c.in-Err.is c.put_bad.ensures

pub slice_bounds-counts-end : goal.slice_bounds-counts-end
slice_bounds-counts-end c = (sizes c.args.net.now.is_open).pairs_within

pub slice_bounds-put_run-end : goal.slice_bounds-put_run-end
slice_bounds-put_run-end c = sym (length-take-le _ _ (sizes c.args.net.now.is_open).pairs_within)

pub invariant_of-list : goal.invariant_of-list
unfolding whole_movements
invariant_of-list c = record { is_listed = left-none _ _ (answer-none _ c.whole_movements-answer.ensures c.in_default.is) }

pub put_run-requires : goal.put_run-requires
unfolding whole_movements
put_run-requires c = let pre = c.requires in record { read = record { opened = c.args.net.now.is_open; weighed = pre.weights_value; listed = left-none _ _ (answer-none _ c.whole_movements-answer.ensures c.in_default.is) }; marking_len = length-take-le _ _ (sizes c.args.net.now.is_open).pairs_within; room_in_bounds = pre.room_in_bounds }

pub returns : goal.returns
unfolding movements_text
returns c =
    text-told _ _ c.whole_movements-answer.ensures c.in_default.is c.put_run.ensures
