-- The three tests as the definition has them.
use borrow.Author.Tests.{lt-ltb, le-ltb}
use Prim.Native.Nat.{◌+◌}
use native.Mathlib.Omega.{arith}
use Rattle.model.proofs.Refusals.{answer-passes, answer_fails}
use Rattle.heads.specs.Bytes.{u16_at}
use Rattle.heads.specs.Layout.{sheet_end}
use Rattle.heads.specs.Checks.{count_refusal}
use Rattle.fields.proofs.counts.read_count.Goals as goal
use Rattle.fields.proofs.counts.read_count.Goals.{then-count-low-via-then-count-low, then-count-low-via-else-count-low+then-high-count}

pub returns-then-sheet_end-at : goal.returns-then-sheet_end-at
unfolding count_refusal
returns-then-sheet_end-at c =
    let a = c.args in
    answer_fails _ (lt-ltb (sheet_end a.sheet.now.bytes.now) (a.at + 2) (omega arith)) c.refused.ensures

pub returns-then-count-low : goal.returns-then-count-low
unfolding count_refusal
returns-then-count-low c =
    let a = c.args in
    let count = u16_at a.sheet.now.bytes.now a.at in
    answer-passes _ _ (le-ltb (sheet_end a.sheet.now.bytes.now) (a.at + 2) (omega arith))
    (elim c.then-count-low.branch [
      | then-count-low-via-then-count-low w ↦ simp (lt-ltb count a.low (omega arith)) c.refused-then-count-low.ensures
      | then-count-low-via-else-count-low+then-high-count w ↦ simp (le-ltb count a.low (omega arith), lt-ltb a.high count (omega arith)) c.refused-then-count-low.ensures
    ])

pub returns : goal.returns
unfolding count_refusal
returns c =
    let a = c.args in
    let count = u16_at a.sheet.now.bytes.now a.at in
    answer-passes _ _ (le-ltb (sheet_end a.sheet.now.bytes.now) (a.at + 2) (omega arith))
    (simp (le-ltb count a.low (omega arith), le-ltb a.high count (omega arith)))
