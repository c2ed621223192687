use borrow.Author.Rules.{rules}
use mathlib.Core.Path.{◌≡◌, refl, sym}
use native.Mathlib.Omega.{arith}
use Rattle.model.proofs.First.{first-none}
use Rattle.model.proofs.Refusals.{answer-first-end, answer-stops, answer-goes-on}
use Rattle.model.proofs.Asking.{handed_on, first_goes_on, first_stops, no_refusal}
use Rattle.sheets.specs.nets.Groups.{group_fields}
use Rattle.sheets.proofs.nets.GroupsRead.{before-none, GroupRead, group_read, step-there, step-next, step-total}
use Rattle.sheets.proofs.nets.groups.group_fields.Goals as goal

pub loop-t-init : goal.loop-t-init
loop-t-init c = (sym (first-none _), before-none _ _, search rules)

pub returns-in_err-read_group : goal.returns-in_err-read_group
unfolding group_fields
returns-in_err-read_group c =
    let l = c.loop-t in
    let e = first_stops _ l.t _ c.loop-t-test.true l.invariant.0 c.in_err-read_group.ensures c.from_residual.ensures in
    answer-stops _ _ e (handed_on c.from_residual.ensures)

pub count_at-k-requires : goal.count_at-k-requires
count_at-k-requires c = let passed : let a = c.args in GroupRead a.sheet.now.bytes.now a.pairs a.base c.loop-t.t = group_read _ _ _ _ (no_refusal _ c.in_ok-read_group.ensures) in
    let a = c.args in
    omega (arith, step-there a.sheet.now.bytes.now a.pairs a.base c.loop-t.t _ c.loop-t.invariant.1 passed, c.args.sheet.now.headed)

pub loop-t-preserved : goal.loop-t-preserved
loop-t-preserved c = let passed : let a = c.args in GroupRead a.sheet.now.bytes.now a.pairs a.base c.loop-t.t = group_read _ _ _ _ (no_refusal _ c.in_ok-read_group.ensures) in
    let a = c.args in (
      first_goes_on _ _ c.loop-t.invariant.0 c.in_ok-read_group.ensures,
      step-next a.sheet.now.bytes.now a.pairs a.base c.loop-t.t _ c.loop-t.invariant.1 _ c.count_at-k.ensures.0,
      step-total a.sheet.now.bytes.now a.pairs a.base c.loop-t.t _ c.loop-t.invariant.1 _ c.count_at-k.ensures.0 passed,
    )

pub returns : goal.returns
unfolding group_fields
returns c =
    let l = c.loop-t in
    let e : l.t ≡ c.args.modes = omega (arith, l.auto.t-end, c.loop-t-test.false) in
    answer-goes-on _ _ (answer-first-end _ _ _ l.auto.t-end c.loop-t-test.false l.invariant.0) refl
    (rw (l.invariant.1, e) at c.left_over.ensures)
