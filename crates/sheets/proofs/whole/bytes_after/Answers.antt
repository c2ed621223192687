-- The test as the definition has it.
use borrow.Author.Tests.{lt-ltb, le-ltb}
use lib.ListN.{length}
use native.Mathlib.Omega.{arith}
use Rattle.model.proofs.Refusals.{answer-last-passes, answer-last_fails}
use Rattle.heads.specs.Layout.{sheet_end}
use Rattle.sheets.specs.Whole.{bytes_after}
use Rattle.sheets.proofs.whole.bytes_after.Goals as goal

pub returns-then-end-s : goal.returns-then-end-s
unfolding bytes_after
returns-then-end-s c =
    let s = c.args.s.now in
    answer-last_fails (lt-ltb (sheet_end s) (length s) (omega arith)) (rw c.sheet_end-end.ensures at c.refused.ensures)

pub returns : goal.returns
unfolding bytes_after
returns c =
    let s = c.args.s.now in
    answer-last-passes _ (le-ltb (sheet_end s) (length s) (omega arith))
