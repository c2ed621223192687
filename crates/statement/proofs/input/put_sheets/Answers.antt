-- The net sheet, or what stands in the part after it.
use borrow.Author.Rules.{rules}
use native.Mathlib.Omega.{arith}
use Rattle.model.proofs.Refusals.{answer-none}
use Rattle.sheets.proofs.nets.Valid.{headed}
use Rattle.statement.specs.Replay.{sheets_text}
use Rattle.statement.proofs.Texts.{bad_told, text-told}
use Rattle.statement.proofs.input.put_sheets.Goals as goal

pub returns-in-Err : goal.returns-in-Err
unfolding sheets_text
returns-in-Err c =
    bad_told _ _ c.read_net-answer.ensures c.in-Err.is c.put_bad.ensures

pub invariant_of-net : goal.invariant_of-net
invariant_of-net c = record { is_open = record { accepted = answer-none _ c.read_net-answer.ensures c.in_default.is; shape = c.shape_of.ensures }; are_bytes = λ i. omega (arith, c.type_inv.input i) }

pub shape_of-requires : goal.shape_of-requires
shape_of-requires c = answer-none _ c.read_net-answer.ensures c.in_default.is

pub after-requires : goal.after-requires
after-requires c = λ e. headed _ (answer-none _ c.read_net-answer.ensures e)

pub put_weight_sheet-requires : goal.put_weight_sheet-requires
put_weight_sheet-requires c = record { room_in_bounds = search rules }

pub returns : goal.returns
unfolding sheets_text
returns c =
    rw (← c.read_net-answer.ensures, ← c.after.ensures)
    (text-told _ _ c.read_net-answer.ensures c.in_default.is c.put_weight_sheet.ensures)
