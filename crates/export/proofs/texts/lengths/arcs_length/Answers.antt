use mathlib.Core.Path.{sym, ◌∙◌, ap}
use lib.ListN.{length}
use native.Mathlib.Omega.{arith}
use Rattle.opened.proofs.Shapes.{sizes}
use Rattle.export.proofs.texts.Texts.{none-long, more-long, end-long, segment-texts}
use Rattle.export.proofs.texts.lengths.arcs_length.Goals as goal

pub overflow_add-total : goal.overflow_add-total
overflow_add-total c =
    let pre = c.requires in
    let z = sizes c.args.net.now.is_open in
    omega (arith, c.loop-i.invariant.1, c.arc_length-total.ensures.1, c.loop-i-test.true, pre.mode_arcs.fits, z.arcs, z.arcs_within)

pub loop-i-preserved : goal.loop-i-preserved
loop-i-preserved c =
    let l = c.loop-i in
    (more-long _ l.i l.invariant.0 c.arc_length-total.ensures.0, omega (arith, l.invariant.1, c.arc_length-total.ensures.1))

pub returns : goal.returns
returns c =
    let l = c.loop-i in
    (end-long _ l.i _ l.auto.i-end c.loop-i-test.false l.invariant.0 ∙ ap length (sym (segment-texts c.requires.mode_arcs)), omega (arith, l.auto.i-end, l.invariant.1))

pub loop-i-init : goal.loop-i-init
loop-i-init c = (none-long _, omega arith)
