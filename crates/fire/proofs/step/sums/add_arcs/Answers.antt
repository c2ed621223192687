use borrow.Author.Rules.{rules}
use mathlib.Core.Path.{◌≡◌}
use native.Mathlib.Omega.{arith}
use Rattle.opened.proofs.Shapes.{sizes}
use Rattle.opened.proofs.Segments.{mode_lists}
use Rattle.fire.proofs.step.Adding.{added_none, addable, added_more, added-all}
use Rattle.fire.proofs.step.sums.add_arcs.Goals as goal

pub loop-i-init : goal.loop-i-init
loop-i-init c = added_none

pub arc-requires : goal.arc-requires
arc-requires c = let pre = c.requires in record { own_arc = record { own = pre.mode_arcs; there = c.loop-i-test.true } }

pub add_arc-requires : goal.add_arc-requires
add_arc-requires c = let size = sizes c.args.net.now.is_open in
    let listing = mode_lists _ size.well_formed _ _ _ c.requires.mode_arcs in
    let arc = c.arc.ensures in record { addable = addable listing c.loop-i-test.true c.loop-i.invariant c.requires.below (omega arith) arc.is arc.pre arc.post }

pub loop-i-preserved : goal.loop-i-preserved
loop-i-preserved c =
    let listing = mode_lists _ (sizes c.args.net.now.is_open).well_formed _ _ _ c.requires.mode_arcs in
    let one = rw c.arc.ensures.is at c.add_arc.ensures in
    added_more listing c.loop-i-test.true c.loop-i.invariant one

pub returns : goal.returns
returns c =
    let l = c.loop-i in
    let listing = mode_lists _ (sizes c.args.net.now.is_open).well_formed _ _ _ c.requires.mode_arcs in
    let e : l.i ≡ c.args.arcs.count = omega arith in
    added-all listing (rw e at l.invariant)
