use borrow.Author.Rules.{rules}
use Prim.Native.Nat.{◌<◌}
use mathlib.Core.Path.{refl, ◌∙◌, ap}
use lib.ListN.{length, length-set}
use native.Mathlib.Omega.{arith}
use Rattle.model.specs.Nets.{count}
use Rattle.model.specs.Firing.{after}
use Rattle.opened.proofs.Shapes.{sizes}
use Rattle.fire.proofs.step.AtPairs.{move_none, move_more, move_all, still_counted}
use Rattle.fire.proofs.step.pairs.write_pairs.Goals as goal

pub loop-p-init : goal.loop-p-init
loop-p-init c = move_none

pub sum_at-requires : goal.sum_at-requires
sum_at-requires c = omega (arith, (sizes c.args.net.now.is_open).pairs_within)

pub bounds-marking-p : goal.bounds-marking-p
bounds-marking-p c = omega (arith, (sizes c.args.net.now.is_open).pairs, c.requires.marking.one_each)

pub moved-requires : goal.moved-requires
moved-requires c =
    still_counted c.args.net.now.is_open c.requires.marking c.requires.below c.loop-p-test.true c.sum_at.ensures c.loop-p.invariant

pub bounds-marking-p-in-loop-p : goal.bounds-marking-p-in-loop-p
bounds-marking-p-in-loop-p c = omega (arith, (sizes c.args.net.now.is_open).pairs, c.requires.marking.one_each)

pub loop-p-preserved : goal.loop-p-preserved
loop-p-preserved c =
    let l = c.loop-p in
    let inside : l.p < length l.marking = omega (arith, (sizes c.args.net.now.is_open).pairs, c.requires.marking.one_each) in
    move_more inside l.invariant (c.moved.ensures ∙ ap (λ e. after e (count l.marking l.p)) c.sum_at.ensures.entry)

pub returns : goal.returns
returns c =
    let l = c.loop-p in
    move_all c.args.net.now.is_open c.requires.marking l.auto.p-end c.loop-p-test.false l.auto.marking l.invariant
