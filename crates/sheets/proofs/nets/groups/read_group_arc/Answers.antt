-- The 14 bytes, then the names, then the numbers.
use borrow.Author.Tests.{lt-ltb, le-ltb}
use Prim.Native.Nat.{◌+◌}
use native.Mathlib.Omega.{arith}
use Rattle.model.proofs.Refusals.{answer-passes, answer_fails}
use Rattle.model.proofs.Asking.{goes_on, stops}
use Rattle.heads.specs.Layout.{sheet_end, group_arc_at}
use Rattle.sheets.specs.nets.Groups.{group_arc_refusal}
use Rattle.sheets.proofs.nets.groups.read_group_arc.Goals as goal

pub returns-then-sheet_end-at : goal.returns-then-sheet_end-at
unfolding group_arc_refusal
returns-then-sheet_end-at c =
    let a = c.args in
    answer_fails _ (lt-ltb (sheet_end a.sheet.now.bytes.now) (group_arc_at a.start a.i + 14) (omega arith)) c.refused.ensures

pub returns-in_err-read_pair_name : goal.returns-in_err-read_pair_name
unfolding group_arc_refusal
returns-in_err-read_pair_name c =
    let a = c.args in
    answer-passes _ _ (le-ltb (sheet_end a.sheet.now.bytes.now) (group_arc_at a.start a.i + 14) (omega arith))
    (stops _ _ c.in_err-read_pair_name.ensures c.from_residual.ensures)

pub returns : goal.returns
unfolding group_arc_refusal
returns c =
    let a = c.args in
    answer-passes _ _ (le-ltb (sheet_end a.sheet.now.bytes.now) (group_arc_at a.start a.i + 14) (omega arith))
    (goes_on _ _ c.in_ok-read_pair_name.ensures c.read_numbers.ensures)
