-- The test as the definition has it.
use borrow.Author.Tests.{lt-ltb, le-ltb}
use native.Mathlib.Omega.{arith}
use Rattle.heads.specs.Layout.{sheet_end}
use Rattle.fields.proofs.read.left_over.Goals as goal

pub returns-then-at-sheet_end : goal.returns-then-at-sheet_end
returns-then-at-sheet_end c =
    let a = c.args in
    simp (lt-ltb a.at (sheet_end a.sheet.now.bytes.now) (omega arith)) c.refused.ensures

pub returns : goal.returns
returns c = let a = c.args in simp (le-ltb a.at (sheet_end a.sheet.now.bytes.now) (omega arith))
