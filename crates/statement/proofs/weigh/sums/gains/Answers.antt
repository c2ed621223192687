use native.Mathlib.Omega.{arith}
use mathlib.Core.Path.{refl}
use Rattle.movement.specs.Figures.{sum as sum_to}
use Rattle.movement.proofs.Figures.{sum-end}
use Rattle.opened.proofs.Shapes.{sizes}
use Rattle.statement.proofs.weigh.Terms.{next_fits, next-is, change_terms}
use Rattle.statement.proofs.weigh.sums.gains.Goals as goal

pub loop-i-init : goal.loop-i-init
unfolding sum_to
loop-i-init c = refl

pub arc_gain-sum-requires : goal.arc_gain-sum-requires
arc_gain-sum-requires c = let pre = c.requires in record { weights_value = pre.weights_value; own_arc = record { own = pre.mode_arcs; there = c.loop-i-test.true } }

pub overflow_add-sum : goal.overflow_add-sum
overflow_add-sum c =
    let l = c.loop-i in
    next_fits (change_terms c.args.net.now.is_open _ c.requires.weights_value _ _ (let z = sizes c.args.net.now.is_open in omega (arith, c.requires.mode_arcs.fits))) l.i c.loop-i-test.true c.arc_gain-sum.type_inv l.invariant
    c.arc_gain-sum.ensures

pub loop-i-preserved : goal.loop-i-preserved
loop-i-preserved c =
    let l = c.loop-i in
    next-is (change_terms c.args.net.now.is_open _ c.requires.weights_value _ _ (let z = sizes c.args.net.now.is_open in omega (arith, c.requires.mode_arcs.fits))) l.i c.loop-i-test.true c.arc_gain-sum.type_inv l.invariant
    c.arc_gain-sum.ensures

pub returns : goal.returns
returns c = sum-end _ _ _ c.loop-i.auto.i-end c.loop-i-test.false c.loop-i.invariant
