-- The two tests as the definition has them.
use borrow.Author.Tests.{lt-ltb, le-ltb}
use native.Mathlib.Omega.{arith}
use Prim.Native.Nat.{◌+◌}
use Rattle.model.specs.First.{◌▸◌}
use Rattle.heads.specs.Layout.{sheet_end}
use Rattle.sheets.specs.lists.Weights.{weight_refusal}
use Rattle.sheets.proofs.lists.weights.read_weight.Goals as goal

pub returns-then-sheet_end-at : goal.returns-then-sheet_end-at
unfolding weight_refusal ◌▸◌
returns-then-sheet_end-at c =
    let a = c.args in
    simp (lt-ltb (sheet_end a.sheet.now.bytes.now) (a.at + 4) (omega arith)) c.refused.ensures

pub returns-then-too_heavy : goal.returns-then-too_heavy
unfolding weight_refusal ◌▸◌
returns-then-too_heavy c =
    let a = c.args in
    simp (le-ltb (sheet_end a.sheet.now.bytes.now) (a.at + 4) (omega arith), ← c.u32_at.ensures.0, ← c.too_heavy.ensures, c.if-too_heavy.true)
    c.refused-then-too_heavy.ensures

pub returns : goal.returns
unfolding weight_refusal ◌▸◌
returns c =
    let a = c.args in
    simp (le-ltb (sheet_end a.sheet.now.bytes.now) (a.at + 4) (omega arith), ← c.u32_at.ensures.0, ← c.too_heavy.ensures, c.if-too_heavy.false)
