-- The two tests as the definition has them.
use borrow.Author.Tests.{lt-ltb, le-ltb}
use native.Mathlib.Omega.{arith}
use Rattle.model.specs.First.{◌▸◌}
use Rattle.heads.specs.Layout.{sheet_end, movement_at, movement_count}
use Rattle.sheets.specs.lists.Movements.{movement_fields}
use Rattle.sheets.proofs.lists.movements.movement_fields.Goals as goal

pub returns-then-end-sheet_end : goal.returns-then-end-sheet_end
unfolding movement_fields ◌▸◌
returns-then-end-sheet_end c =
    let s = c.args.sheet.now.bytes.now in
    simp (lt-ltb (movement_at (movement_count s)) (sheet_end s) (omega arith)) (rw (← c.movement_count-count.ensures) c.refused.ensures)

pub returns-then-count-gt8192 : goal.returns-then-count-gt8192
unfolding movement_fields ◌▸◌
returns-then-count-gt8192 c =
    let s = c.args.sheet.now.bytes.now in
    simp (le-ltb (movement_at (movement_count s)) (sheet_end s) (omega arith), lt-ltb 8192 (movement_count s) (omega arith)) c.refused-then-count-gt8192.ensures

pub returns : goal.returns
unfolding movement_fields ◌▸◌
returns c =
    let s = c.args.sheet.now.bytes.now in
    simp (le-ltb (movement_at (movement_count s)) (sheet_end s) (omega arith), le-ltb 8192 (movement_count s) (omega arith))
