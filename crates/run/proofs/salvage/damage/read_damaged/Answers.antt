-- Each test that was passed, and the one that was not, as the definition has them.
use borrow.Author.Tests.{lt-ltb, le-ltb, eq-eqb, ne_eqb}
use mathlib.Core.Path.{ap}
use mathlib.Core.Bool.{not}
use lib.ListN.{length}
use native.Mathlib.Omega.{arith}
use Rattle.model.proofs.Refusals.{answer-passes, answer_fails, answer-last-passes, answer-last_fails}
use Rattle.heads.specs.Layout.{body_length, version}
use Rattle.damaged.specs.Damaged.{damaged_refusal}
use Rattle.run.proofs.salvage.damage.read_damaged.Goals as goal

pub returns-then-s-lt5 : goal.returns-then-s-lt5
unfolding damaged_refusal
returns-then-s-lt5 c = answer_fails _ (lt-ltb _ _ c.if-s-lt5.true) c.refused.ensures

pub returns-then-sheet_end-eq4 : goal.returns-then-sheet_end-eq4
unfolding damaged_refusal
returns-then-sheet_end-eq4 c =
    let s = c.args.s.now in
    answer-passes _ _ (le-ltb (length s) 5 c.if-s-lt5.false)
    (answer_fails _ (eq-eqb (body_length s) 0 (omega (arith, c.sheet_end.ensures, c.if-sheet_end-eq4.true))) c.refused-then-sheet_end-eq4.ensures)

pub returns-then-s-ne1 : goal.returns-then-s-ne1
unfolding damaged_refusal
returns-then-s-ne1 c =
    let s = c.args.s.now in
    answer-passes _ _ (le-ltb (length s) 5 c.if-s-lt5.false)
    (answer-passes _ _ (ne_eqb (body_length s) 0 (λ e. c.if-sheet_end-eq4.false (omega (arith, c.sheet_end.ensures))))
    (answer-last_fails (ap not (ne_eqb (version s) 1 c.if-s-ne1.true)) c.refused-then-s-ne1.ensures))

pub returns : goal.returns
unfolding damaged_refusal
returns c =
    let s = c.args.s.now in
    answer-passes _ _ (le-ltb (length s) 5 c.if-s-lt5.false)
    (answer-passes _ _ (ne_eqb (body_length s) 0 (λ e. c.if-sheet_end-eq4.false (omega (arith, c.sheet_end.ensures))))
    (answer-last-passes _ (ap not (eq-eqb (version s) 1 c.if-s-ne1.false))))
