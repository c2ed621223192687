use mathlib.Core.Path.{sym, ◌∙◌, ap}
use native.Mathlib.Omega.{arith}
use Rattle.opened.proofs.Shapes.{sizes}
use Rattle.export.specs.elements.Sizes.{place_size}
use Rattle.export.proofs.elements.Lengths.{place-length}
use Rattle.export.proofs.texts.Texts.{none-long, more-long}
use Rattle.export.proofs.texts.lengths.places_length.Goals as goal

pub overflow_add-total : goal.overflow_add-total
overflow_add-total c = omega (arith, c.loop-p.invariant.1, c.place_size-total.ensures.1, (sizes c.args.net.now.is_open).pairs_within)

pub loop-p-preserved : goal.loop-p-preserved
loop-p-preserved c =
    let l = c.loop-p in
    let one = c.place_size-total.ensures.0 ∙ ap place_size c.start_count.ensures.0 ∙ sym (place-length l.p _) in
    (more-long _ l.p l.invariant.0 one, omega (arith, l.invariant.1, c.place_size-total.ensures.1))

pub loop-p-init : goal.loop-p-init
loop-p-init c = (none-long _, omega arith)

pub overflow_cast-p : goal.overflow_cast-p
overflow_cast-p c = omega (arith, (sizes c.args.net.now.is_open).pairs_within)
