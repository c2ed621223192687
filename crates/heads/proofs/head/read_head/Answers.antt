-- Each test that was passed, and the one that was not, as the definition has them.
use borrow.Author.Tests.{lt-ltb, le-ltb, eq-eqb, ne_eqb, not-true, not-false}
use lib.ListN.{length}
use native.Mathlib.Omega.{arith}
use Rattle.model.specs.First.{◌▸◌}
use Rattle.heads.specs.Layout.{body_length, sheet_end}
use Rattle.heads.specs.Checks.{head_refusal}
use Rattle.heads.proofs.head.read_head.Goals as goal

pub returns-then-s-lt4 : goal.returns-then-s-lt4
unfolding head_refusal ◌▸◌
returns-then-s-lt4 c = simp (lt-ltb _ _ c.if-s-lt4.true) c.refused.ensures

pub returns-then-s-end : goal.returns-then-s-end
unfolding head_refusal ◌▸◌
returns-then-s-end c =
    let s = c.args.s.now in
    simp (le-ltb (length s) 4 (omega arith), lt-ltb (length s) (sheet_end s) (omega arith)) c.refused-then-s-end.ensures

pub returns-then-end-eq4 : goal.returns-then-end-eq4
unfolding head_refusal ◌▸◌
returns-then-end-eq4 c =
    let s = c.args.s.now in
    simp (le-ltb (length s) 4 (omega arith), le-ltb (length s) (sheet_end s) (omega arith), eq-eqb (body_length s) 0 (omega arith))
    c.refused-then-end-eq4.ensures

pub returns-then-not-is_known : goal.returns-then-not-is_known
unfolding head_refusal ◌▸◌
returns-then-not-is_known c =
    let s = c.args.s.now in
    let k = c.is_known in
    simp
    (le-ltb (length s) 4 (omega arith), le-ltb (length s) (sheet_end s) (omega arith), ne_eqb (body_length s) 0 (omega arith), ← k.ensures, not-true k.result c.if-not-is_known.true-raw)
    c.refused-then-not-is_known.ensures

pub returns : goal.returns
unfolding head_refusal ◌▸◌
returns c =
    let s = c.args.s.now in
    let k = c.is_known in
    simp
    (le-ltb (length s) 4 (omega arith), le-ltb (length s) (sheet_end s) (omega arith), ne_eqb (body_length s) 0 (omega arith), ← k.ensures, not-false k.result c.if-not-is_known.false-raw)
