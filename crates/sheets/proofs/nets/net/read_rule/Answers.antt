-- The byte is there, then it is 0 or 1.
use borrow.Author.Tests.{lt-ltb, le-ltb}
use native.Mathlib.Omega.{arith}
use Rattle.model.specs.First.{◌▸◌}
use Rattle.heads.specs.Bytes.{byte_at}
use Rattle.heads.specs.Layout.{sheet_end}
use Rattle.sheets.specs.nets.Nets.{rule_field}
use Rattle.sheets.proofs.nets.net.read_rule.Goals as goal

pub returns-then-sheet_end-lt6 : goal.returns-then-sheet_end-lt6
unfolding rule_field ◌▸◌
returns-then-sheet_end-lt6 c = let s = c.args.sheet.now.bytes.now in simp (lt-ltb (sheet_end s) 6 (omega arith)) c.refused.ensures

pub returns-then-sheet-gt1 : goal.returns-then-sheet-gt1
unfolding rule_field ◌▸◌
returns-then-sheet-gt1 c =
    let s = c.args.sheet.now.bytes.now in
    simp (le-ltb (sheet_end s) 6 (omega arith), lt-ltb 1 (byte_at s 5) c.if-sheet-gt1.true) c.refused-then-sheet-gt1.ensures

pub returns : goal.returns
unfolding rule_field ◌▸◌
returns c =
    let s = c.args.sheet.now.bytes.now in
    simp (le-ltb (sheet_end s) 6 (omega arith), le-ltb 1 (byte_at s 5) c.if-sheet-gt1.false)
