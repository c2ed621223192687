use Prim.Native.Nat.{◌+◌}
use mathlib.Core.Path.{◌≡◌, sym, ◌∙◌, ap}
use lib.ListN.{length}
use native.Mathlib.Omega.{arith}
use Rattle.model.specs.Nets.{modes}
use Rattle.model.specs.Lists.{joined}
use Rattle.sheets.specs.Decoded.{net_of}
use Rattle.opened.proofs.Shapes.{sizes}
use Rattle.complement.specs.sections.Arcs.{row_arcs}
use Rattle.complement.proofs.sections.Counts.{count_none, count-more}
use Rattle.complement.proofs.sections.Read.{entry-dead}
use Rattle.complement.proofs.sections.ModeHalves.{complement-arcs}
use Rattle.complement.proofs.sections.Rows.{arcs-few}
use Rattle.complement.proofs.sections.survey.count_arcs.Goals as goal

pub count_mode-count-requires : goal.count_mode-count-requires
count_mode-count-requires c = let segment = c.arcs_of.ensures in record { mode_arcs = segment.own; dead_value = entry-dead c.args.bounded.now.net.now.is_open c.requires.dead_are c.loop-t.t c.loop-t-test.true segment }

pub overflow_add-count : goal.overflow_add-count
overflow_add-count c = let counted : let l = c.loop-t in
    let net = net_of c.args.bounded.now.net.now.sheet.now in
    l.count + c.count_mode-count.result ≡ length (joined (l.t + 1) (row_arcs net)) = let l = c.loop-t in
    let net = net_of c.args.bounded.now.net.now.sheet.now in
    count-more (row_arcs net) l.t l.invariant (c.count_mode-count.ensures.0 ∙ ap (λ m. length (row_arcs net m.0)) c.arcs_of.ensures.mode) in
    let l = c.loop-t in
    let z = sizes c.args.bounded.now.net.now.is_open in
    let few = arcs-few (net_of c.args.bounded.now.net.now.sheet.now) z.well_formed c.requires.starts_are (l.t + 1) (omega (arith, c.loop-t-test.true, z.modes_within)) in
    omega (arith, counted, few, z.arcs, z.arcs_within)

pub loop-t-preserved : goal.loop-t-preserved
loop-t-preserved c = let counted : let l = c.loop-t in
    let net = net_of c.args.bounded.now.net.now.sheet.now in
    l.count + c.count_mode-count.result ≡ length (joined (l.t + 1) (row_arcs net)) = let l = c.loop-t in
    let net = net_of c.args.bounded.now.net.now.sheet.now in
    count-more (row_arcs net) l.t l.invariant (c.count_mode-count.ensures.0 ∙ ap (λ m. length (row_arcs net m.0)) c.arcs_of.ensures.mode) in
    counted

pub returns : goal.returns
returns c =
    let l = c.loop-t in
    let z = sizes c.args.bounded.now.net.now.is_open in
    let net = net_of c.args.bounded.now.net.now.sheet.now in
    let e : l.t ≡ modes net = omega (arith, z.modes) in
    let few = arcs-few net z.well_formed c.requires.starts_are l.t (omega (arith, z.modes_within)) in
    ((rw e at l.invariant) ∙ sym (ap length (complement-arcs net)), omega (arith, few, z.arcs, z.arcs_within))

pub loop-t-init : goal.loop-t-init
loop-t-init c = count_none _

pub bounds-dead-t : goal.bounds-dead-t
bounds-dead-t c = omega (arith, (sizes c.args.bounded.now.net.now.is_open).modes_within)

pub overflow_cast-t : goal.overflow_cast-t
overflow_cast-t c = omega (arith, (sizes c.args.bounded.now.net.now.is_open).modes_within)
