-- The two tests as the definition has them.
use borrow.Author.Tests.{le-leb, lt-leb}
use mathlib.Core.Path.{sym, ◌∙◌}
use native.Mathlib.Omega.{arith}
use Rattle.model.proofs.Refusals.{answer-passes, answer_fails, answer-last-passes, answer-last_fails}
use Rattle.heads.specs.Bytes.{u16_at}
use Rattle.heads.specs.Layout.{group_arc_at}
use Rattle.sheets.specs.nets.Groups.{pair_name_refusal}
use Rattle.sheets.proofs.nets.groups.read_pair_name.Goals as goal

pub returns-then-pairs-count_at : goal.returns-then-pairs-count_at
unfolding pair_name_refusal
returns-then-pairs-count_at c =
    let a = c.args in
    answer_fails _ (le-leb a.pairs (u16_at a.s.now (group_arc_at a.start a.i)) (omega arith)) c.refused.ensures

pub returns-then-pair_not_rising : goal.returns-then-pair_not_rising
unfolding pair_name_refusal
returns-then-pair_not_rising c =
    let a = c.args in
    answer-passes _ _ (lt-leb a.pairs (u16_at a.s.now (group_arc_at a.start a.i)) (omega arith))
    (answer-last_fails (sym c.pair_not_rising.ensures ∙ c.if-pair_not_rising.true) c.refused-then-pair_not_rising.ensures)

pub returns : goal.returns
unfolding pair_name_refusal
returns c =
    let a = c.args in
    answer-passes _ _ (lt-leb a.pairs (u16_at a.s.now (group_arc_at a.start a.i)) (omega arith))
    (answer-last-passes _ (sym c.pair_not_rising.ensures ∙ c.if-pair_not_rising.false))
