use borrow.Author.Rules.{rules}
use mathlib.Core.Path.{◌≡◌}
use native.Mathlib.Omega.{arith}
use Rattle.sheets.specs.Decoded.{net_of}
use Rattle.opened.proofs.Shapes.{sizes}
use Rattle.opened.proofs.Segments.{below_more, first_stops, first_ends}
use Rattle.opened.proofs.starts.first_from.Goals as goal

pub returns-then-t-arc_mode : goal.returns-then-t-arc_mode
returns-then-t-arc_mode c =
    let l = c.loop-i in
    let z = sizes c.args.net.now.is_open in
    first_stops _ z.well_formed.rising _ l.i (omega arith) l.invariant (rw (← c.arc_mode.ensures) c.if-t-arc_mode.true)

pub loop-i-preserved : goal.loop-i-preserved
loop-i-preserved c =
    let l = c.loop-i in
    let a = c.args in
    below_more (net_of a.net.now.sheet.now).arcs a.t l.i l.invariant (rw (← c.arc_mode.ensures) c.if-t-arc_mode.false)

pub returns : goal.returns
returns c =
    let l = c.loop-i in
    let z = sizes c.args.net.now.is_open in
    let all : l.i ≡ c.args.net.now.shape.arcs = omega (arith, l.auto.i-end c.requires.k_le_arcs, c.loop-i-test.false) in
    first_ends _ _ _ (omega arith) (rw all at l.invariant)

pub arc_mode-requires : goal.arc_mode-requires
arc_mode-requires c = record { version_value = c.requires.version_value; k_lt_arcs = c.loop-i-test.true }
