use Prim.Native.Nat.{◌+◌}
use mathlib.Core.Path.{sym, ◌∙◌, ap}
use lib.ListN.{length}
use mathlib.Core.List.{flat_map}
use native.Mathlib.Omega.{arith}
use Rattle.sheets.specs.Decoded.{net_of}
use Rattle.opened.proofs.Shapes.{sizes}
use Rattle.sheets.specs.written.Written.{of_mode}
use Rattle.pnml.specs.Pnml.{arc_text}
use Rattle.export.proofs.texts.Texts.{none-long, more-long, mode-long}
use Rattle.export.proofs.texts.lengths.modes_length.Goals as goal

pub overflow_add-total : goal.overflow_add-total
overflow_add-total c =
    let z = sizes c.args.net.now.is_open in
    omega (arith, c.arcs_of.ensures.own.fits, z.arcs, z.arcs_within, c.arcs_length.ensures.1)

pub overflow_add-total-in-loop-t : goal.overflow_add-total-in-loop-t
overflow_add-total-in-loop-t c =
    let z = sizes c.args.net.now.is_open in
    omega (arith, c.arcs_of.ensures.own.fits, z.arcs, z.arcs_within, c.arcs_length.ensures.1, z.modes_within, c.loop-t.invariant.1, c.loop-t-test.true)

pub loop-t-preserved : goal.loop-t-preserved
loop-t-preserved c =
    let l = c.loop-t in
    let z = sizes c.args.net.now.is_open in
    let arcs = (net_of c.args.net.now.sheet.now).arcs in
    let segment = c.arcs_of.ensures in
    let own = ap (λ n. 30 + n) (c.arcs_length.ensures.0 ∙ ap (λ m. length (flat_map arc_text (of_mode arcs m.0))) segment.mode) ∙ sym (mode-long arcs l.t) in
    (more-long _ l.t l.invariant.0 own, omega (arith, segment.own.fits, z.arcs, z.arcs_within, c.arcs_length.ensures.1, l.invariant.1))

pub loop-t-init : goal.loop-t-init
loop-t-init c = (none-long _, omega arith)

pub overflow_cast-t : goal.overflow_cast-t
overflow_cast-t c = omega (arith, (sizes c.args.net.now.is_open).modes_within)
