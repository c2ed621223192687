-- The count, then each weight, then what is left over.
use borrow.Author.Tests.{lt-ltb, le-ltb, eq-eqb, ne_eqb}
use mathlib.Core.Path.{ap}
use mathlib.Core.Bool.{not}
use native.Mathlib.Omega.{arith}
use Rattle.model.proofs.Refusals.{answer-passes, answer_fails}
use Rattle.heads.specs.Layout.{sheet_end, weight_count}
use Rattle.sheets.specs.lists.Weights.{weight_fields}
use Rattle.model.proofs.Asking.{goes_on, stops}
use Rattle.sheets.proofs.lists.weights.weight_fields.Goals as goal

pub returns-then-sheet_end-lt7 : goal.returns-then-sheet_end-lt7
unfolding weight_fields
returns-then-sheet_end-lt7 c =
    let s = c.args.sheet.now.bytes.now in
    answer_fails _ (lt-ltb (sheet_end s) 7 (omega arith)) c.refused.ensures

pub returns-then-count-pairs : goal.returns-then-count-pairs
unfolding weight_fields
returns-then-count-pairs c =
    let a = c.args in
    answer-passes _ _ (le-ltb (sheet_end a.sheet.now.bytes.now) 7 (omega arith))
    (answer_fails _ (ap not (ne_eqb (weight_count a.sheet.now.bytes.now) a.pairs (omega arith))) c.refused-then-count-pairs.ensures)

pub returns-in_err-each_weight : goal.returns-in_err-each_weight
unfolding weight_fields
returns-in_err-each_weight c =
    let a = c.args in
    answer-passes _ _ (le-ltb (sheet_end a.sheet.now.bytes.now) 7 (omega arith))
    (answer-passes _ _ (ap not (eq-eqb (weight_count a.sheet.now.bytes.now) a.pairs (omega arith)))
    (stops _ _ (rw c.count_at-count.ensures.0 at c.in_err-each_weight.ensures) c.from_residual.ensures))

pub returns : goal.returns
unfolding weight_fields
returns c =
    let a = c.args in
    answer-passes _ _ (le-ltb (sheet_end a.sheet.now.bytes.now) 7 (omega arith))
    (answer-passes _ _ (ap not (eq-eqb (weight_count a.sheet.now.bytes.now) a.pairs (omega arith)))
    (goes_on _ _ (rw c.count_at-count.ensures.0 at c.in_ok-each_weight.ensures)
    (rw c.count_at-count.ensures.0 at c.left_over.ensures)))
