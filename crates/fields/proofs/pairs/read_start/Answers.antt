-- The three tests as the definition has them.
use borrow.Author.Tests.{lt-ltb, le-ltb}
use Prim.Native.Nat.{◌+◌}
use native.Mathlib.Omega.{arith}
use Rattle.model.proofs.Refusals.{answer-passes, answer_fails}
use Rattle.heads.specs.Bytes.{u32_at}
use Rattle.heads.specs.Layout.{sheet_end}
use Rattle.fields.specs.Fields.{start_refusal}
use Rattle.fields.proofs.pairs.read_start.Goals as goal

pub returns-then-sheet_end-at : goal.returns-then-sheet_end-at
unfolding start_refusal
returns-then-sheet_end-at c =
    let a = c.args in
    answer_fails _ (lt-ltb (sheet_end a.sheet.now.bytes.now) (a.at + 4 + 4) (omega arith)) c.refused.ensures

pub returns-then-start-gt1000000 : goal.returns-then-start-gt1000000
unfolding start_refusal
returns-then-start-gt1000000 c =
    let a = c.args in
    answer-passes _ _ (le-ltb (sheet_end a.sheet.now.bytes.now) (a.at + 4 + 4) (omega arith))
    (answer_fails _ (lt-ltb 1000000 (u32_at a.sheet.now.bytes.now (a.at + 4)) (omega arith)) c.refused-then-start-gt1000000.ensures)

pub returns-then-above_bound : goal.returns-then-above_bound
unfolding start_refusal
returns-then-above_bound c =
    let a = c.args in
    answer-passes _ _ (le-ltb (sheet_end a.sheet.now.bytes.now) (a.at + 4 + 4) (omega arith))
    (answer-passes _ _ (le-ltb 1000000 (u32_at a.sheet.now.bytes.now (a.at + 4)) (omega arith))
    (simp (← c.u32_at.ensures.0, ← c.u32_at-start.ensures.0, ← c.above_bound.ensures, c.if-above_bound.true)
    c.refused-then-above_bound.ensures))

pub returns : goal.returns
unfolding start_refusal
returns c =
    let a = c.args in
    answer-passes _ _ (le-ltb (sheet_end a.sheet.now.bytes.now) (a.at + 4 + 4) (omega arith))
    (answer-passes _ _ (le-ltb 1000000 (u32_at a.sheet.now.bytes.now (a.at + 4)) (omega arith))
    (simp (← c.u32_at.ensures.0, ← c.u32_at-start.ensures.0, ← c.above_bound.ensures, c.if-above_bound.false)))
