use borrow.Author.Rules.{rules}
use mathlib.Core.Path.{sym}
use native.Mathlib.Omega.{arith}
use Rattle.model.proofs.First.{first-none}
use Rattle.model.proofs.Refusals.{answer-first-end}
use Rattle.model.proofs.Asking.{first_goes_on, first_stops, no_refusal}
use Rattle.fields.proofs.RunningTotals.{RunningRead, running-holds, total-none, total-more}
use Rattle.fields.proofs.counts.read_counts.Goals as goal

pub loop-i-init : goal.loop-i-init
loop-i-init c = (sym (first-none _), total-none _ _, search rules)

pub returns-in_err-read_running : goal.returns-in_err-read_running
returns-in_err-read_running c =
    let l = c.loop-i in
    first_stops _ l.i _ c.loop-i-test.true l.invariant.0 c.in_err-read_running.ensures c.from_residual.ensures

pub count_at-total-requires : goal.count_at-total-requires
count_at-total-requires c = let passed : RunningRead c.args.sheet.now.bytes.now c.args.start c.loop-i.i = running-holds _ _ _ (no_refusal _ c.in_ok-read_running.ensures) in
    omega (arith, passed)

pub loop-i-preserved : goal.loop-i-preserved
loop-i-preserved c = let passed : RunningRead c.args.sheet.now.bytes.now c.args.start c.loop-i.i = running-holds _ _ _ (no_refusal _ c.in_ok-read_running.ensures) in
    let a = c.args in
    let more = total-more a.sheet.now.bytes.now a.start c.loop-i.i in
    let p = passed in (
      first_goes_on _ _ c.loop-i.invariant.0 c.in_ok-read_running.ensures,
      omega arith,
      omega arith,
    )

pub returns : goal.returns
returns c = let l = c.loop-i in answer-first-end _ _ _ l.auto.i-end c.loop-i-test.false l.invariant.0
