-- The 16 bytes, then the names, then the numbers.
use borrow.Author.Tests.{lt-ltb, le-ltb}
use Prim.Native.Nat.{◌+◌}
use native.Mathlib.Omega.{arith}
use Rattle.model.proofs.Refusals.{answer-passes, answer_fails}
use Rattle.model.proofs.Asking.{goes_on, stops}
use Rattle.heads.specs.Layout.{sheet_end, arc_at}
use Rattle.sheets.specs.nets.Nets.{arc_refusal}
use Rattle.sheets.proofs.nets.arcs.read_arc.Goals as goal

pub returns-then-sheet_end-at : goal.returns-then-sheet_end-at
unfolding arc_refusal
returns-then-sheet_end-at c =
    let a = c.args in
    answer_fails _ (lt-ltb (sheet_end a.sheet.now.bytes.now) (arc_at a.start a.k + 16) (omega arith)) c.refused.ensures

pub returns-in_err-read_arc_names : goal.returns-in_err-read_arc_names
unfolding arc_refusal
returns-in_err-read_arc_names c =
    let a = c.args in
    answer-passes _ _ (le-ltb (sheet_end a.sheet.now.bytes.now) (arc_at a.start a.k + 16) (omega arith))
    (stops _ _ c.in_err-read_arc_names.ensures c.from_residual.ensures)

pub returns : goal.returns
unfolding arc_refusal
returns c =
    let a = c.args in
    answer-passes _ _ (le-ltb (sheet_end a.sheet.now.bytes.now) (arc_at a.start a.k + 16) (omega arith))
    (goes_on _ _ c.in_ok-read_arc_names.ensures c.read_numbers.ensures)
