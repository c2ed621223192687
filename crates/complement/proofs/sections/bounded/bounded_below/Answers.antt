use Prim.Native.Nat.{◌+◌}
use mathlib.Core.Path.{refl, sym, ◌∙◌}
use lib.ListN.{length-set}
use native.Mathlib.Omega.{arith}
use Rattle.model.specs.Nets.{K}
use Rattle.second_form.proofs.Bounded.{below_none, below-at-most}
use Rattle.sheets.specs.Decoded.{net_of}
use Rattle.opened.proofs.Shapes.{sizes}
use Rattle.halves.proofs.Below.{none_below, one_more_lem, filled}
use Rattle.complement.proofs.sections.bounded.bounded_below.Goals as goal

pub loop-p-init : goal.loop-p-init
loop-p-init c = (refl, sym (below_none _), none_below _)

pub overflow_add-count : goal.overflow_add-count
overflow_add-count c =
    let z = sizes c.args.net.now.is_open in
    let l = c.loop-p in
    let k = K (net_of c.args.net.now.sheet.now) in
    let more = one_more_lem k l.p l.invariant.1 c.one_if_bounded-count.ensures in
    omega (arith, more, below-at-most k (l.p + 1), z.pairs_within)

pub offset_bounds-below-p : goal.offset_bounds-below-p
offset_bounds-below-p c = let z = sizes c.args.net.now.is_open in omega (arith, z.pairs_within)

pub bounds-below-p : goal.bounds-below-p
bounds-below-p c = let z = sizes c.args.net.now.is_open in omega (arith, z.pairs_within)

pub loop-p-preserved : goal.loop-p-preserved
loop-p-preserved c =
    let z = sizes c.args.net.now.is_open in
    let l = c.loop-p in
    let k = K (net_of c.args.net.now.sheet.now) in
    let more = one_more_lem k l.p l.invariant.1 c.one_if_bounded-count.ensures in
    (length-set l.below _ _ ∙ l.invariant.0, more, filled k l.below l.p (omega (arith, z.pairs_within)) l.invariant.2 more)

pub invariant_of-result : goal.invariant_of-result
invariant_of-result c =
    let z = sizes c.args.net.now.is_open in
    record { below_are = record { each = λ p h. c.loop-p.invariant.2 p (omega (arith, z.pairs)) } }
