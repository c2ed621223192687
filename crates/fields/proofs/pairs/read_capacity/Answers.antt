-- The two tests as the definition has them.
use borrow.Author.Tests.{lt-ltb, le-ltb}
use Prim.Native.Nat.{◌+◌}
use native.Mathlib.Omega.{arith}
use Rattle.model.proofs.Refusals.{answer-passes, answer_fails}
use Rattle.heads.specs.Layout.{sheet_end}
use Rattle.fields.specs.Fields.{capacity_refusal}
use Rattle.fields.proofs.pairs.read_capacity.Goals as goal

pub returns-then-sheet_end-at : goal.returns-then-sheet_end-at
unfolding capacity_refusal
returns-then-sheet_end-at c =
    let a = c.args in
    answer_fails _ (lt-ltb (sheet_end a.sheet.now.bytes.now) (a.at + 4) (omega arith)) c.refused.ensures

pub returns-then-bound_outside : goal.returns-then-bound_outside
unfolding capacity_refusal
returns-then-bound_outside c =
    let a = c.args in
    answer-passes _ _ (le-ltb (sheet_end a.sheet.now.bytes.now) (a.at + 4) (omega arith))
    (simp (← c.u32_at.ensures.0, ← c.bound_outside.ensures, c.if-bound_outside.true) c.refused-then-bound_outside.ensures)

pub returns : goal.returns
unfolding capacity_refusal
returns c =
    let a = c.args in
    answer-passes _ _ (le-ltb (sheet_end a.sheet.now.bytes.now) (a.at + 4) (omega arith))
    (simp (← c.u32_at.ensures.0, ← c.bound_outside.ensures, c.if-bound_outside.false))
