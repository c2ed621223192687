use borrow.Author.Rules.{rules}
use mathlib.Core.Path.{◌≡◌}
use native.Mathlib.Omega.{arith}
use Rattle.fields.proofs.RunningTotals.{total-none, total-more}
use Rattle.fields.proofs.counts.total_of.Goals as goal

pub loop-i-init : goal.loop-i-init
loop-i-init c = (total-none _ _, search rules)

pub loop-i-preserved : goal.loop-i-preserved
loop-i-preserved c =
    let a = c.args in
    let l = c.loop-i in
    (omega (arith, total-more a.s.now a.start l.i), search rules)

pub returns : goal.returns
returns c =
    let a = c.args in
    let e : c.loop-i.i ≡ a.n = omega arith in
    rw (← e) c.loop-i.invariant.0
