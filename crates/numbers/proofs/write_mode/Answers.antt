use borrow.Author.Rules.{rules}
use Prim.Native.Nat.{◌<◌}
use mathlib.Core.Path.{◌≡◌, sym, ◌∙◌}
use native.Mathlib.Omega.{arith}
use Rattle.opened.proofs.Shapes.{sizes}
use Rattle.numbers.proofs.ByNumbers.{with_none, with_more, with_all}
use Rattle.numbers.proofs.write_mode.Goals as goal

pub slot-requires : goal.slot-requires
slot-requires c = let pre = c.requires in record { own_arc = record { own = pre.mode_arcs; there = c.loop-i-test.true } }

pub offset_bounds-numbers-slot : goal.offset_bounds-numbers-slot
offset_bounds-numbers-slot c = omega (arith, c.slot.ensures.1, (sizes c.args.net.now.is_open).arcs_within)

pub bounds-numbers-slot : goal.bounds-numbers-slot
bounds-numbers-slot c =
    let z = sizes c.args.net.now.is_open in
    omega (arith, c.slot.ensures.1, z.arcs_within, c.loop-i.invariant.below.long)

pub loop-i-preserved : goal.loop-i-preserved
loop-i-preserved c =
    let l = c.loop-i in
    let pre = c.requires in
    let few : c.slot.result < 2048 = omega (arith, c.slot.ensures.1, (sizes c.args.net.now.is_open).arcs_within) in
    with_more pre.mode_arcs l.i _ c.loop-i-test.true c.slot.ensures.0 few l.invariant c.arc_number.ensures

pub shape_of-numbers : goal.shape_of-numbers
shape_of-numbers c = c.loop-i.invariant.below.long ∙ sym c.requires.numbers_below.long

pub returns : goal.returns
returns c =
    let l = c.loop-i in
    let e : l.i ≡ c.args.arcs.count = omega arith in
    with_all c.requires.mode_arcs (rw e at l.invariant)

pub loop-i-init : goal.loop-i-init
loop-i-init c = with_none c.requires.mode_arcs c.requires.numbers_below
