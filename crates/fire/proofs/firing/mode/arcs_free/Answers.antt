use borrow.Author.Rules.{rules}
use borrow.Author.Count.{below_more}
use native.Mathlib.Omega.{arith}
use Rattle.fire.proofs.firing.ByMode.{one_not_free, all-free}
use Rattle.fire.proofs.firing.mode.arcs_free.Goals as goal

pub loop-i-init : goal.loop-i-init
loop-i-init c = λ j l. absurd (omega arith)

pub arc_free-requires : goal.arc_free-requires
arc_free-requires c = let pre = c.requires in record { marking = pre.marking; own_arc = record { own = pre.own; there = c.loop-i-test.true } }

pub returns-then-not-arc_free : goal.returns-then-not-arc_free
returns-then-not-arc_free c = λ t own.
    one_not_free c.requires t own c.loop-i.i c.loop-i-test.true c.arc_free.ensures c.if-not-arc_free.true

pub loop-i-preserved : goal.loop-i-preserved
loop-i-preserved c = below_more _ _ c.loop-i.invariant (c.arc_free.ensures.0 c.if-not-arc_free.false)

pub returns : goal.returns
returns c = λ t own. all-free c.requires t own (λ j l. c.loop-i.invariant j (omega arith))
