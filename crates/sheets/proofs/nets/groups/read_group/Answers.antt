-- The count, within the total, then the arcs.
use borrow.Author.Tests.{lt-ltb, le-ltb}
use Prim.Native.Nat.{◌+◌, ◌*◌}
use native.Mathlib.Omega.{arith}
use Rattle.model.proofs.Refusals.{answer-passes, answer_fails}
use Rattle.heads.specs.Bytes.{u16_at}
use Rattle.heads.specs.Layout.{sheet_end}
use Rattle.sheets.specs.nets.Groups.{group_refusal}
use Rattle.sheets.proofs.nets.groups.read_group.Goals as goal

pub returns-then-sheet_end-at : goal.returns-then-sheet_end-at
unfolding group_refusal
returns-then-sheet_end-at c =
    let a = c.args in
    rw (← c.requires.k_value) (answer_fails _ (lt-ltb (sheet_end a.sheet.now.bytes.now) (a.base + 2 * a.t + 14 * a.k + 2) (omega arith)) c.refused.ensures)

pub returns-then-k-count-gt2048 : goal.returns-then-k-count-gt2048
unfolding group_refusal
returns-then-k-count-gt2048 c =
    let a = c.args in
    let at = a.base + 2 * a.t + 14 * a.k in
    rw (← c.requires.k_value)
    (answer-passes _ _ (le-ltb (sheet_end a.sheet.now.bytes.now) (at + 2) (omega arith))
    (answer_fails _ (lt-ltb 2048 (a.k + u16_at a.sheet.now.bytes.now at) (omega arith)) c.refused-then-k-count-gt2048.ensures))

pub returns : goal.returns
unfolding group_refusal
returns c =
    let a = c.args in
    let at = a.base + 2 * a.t + 14 * a.k in
    rw (← c.requires.k_value)
    (answer-passes _ _ (le-ltb (sheet_end a.sheet.now.bytes.now) (at + 2) (omega arith))
    (answer-passes _ _ (le-ltb 2048 (a.k + u16_at a.sheet.now.bytes.now at) (omega arith)) (rw c.count_at-count.ensures.0 at c.read_group_arcs.ensures)))
