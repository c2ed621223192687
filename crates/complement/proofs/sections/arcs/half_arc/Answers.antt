-- The arc that was read, on its own pair or on the complement pair.
use mathlib.Core.Path.{◌∙◌, ap}
use native.Mathlib.Omega.{arith}
use Rattle.sheets.specs.Decoded.{net_of}
use Rattle.opened.proofs.Shapes.{sizes}
use Rattle.both_forms.specs.Promises.{on_original}
use Rattle.halves.proofs.Below.{entry-few}
use Rattle.complement.proofs.sections.Read.{small, complement-is, own-dead}
use Rattle.complement.proofs.sections.arcs.half_arc.Goals as goal

pub complement_pair-requires : goal.complement_pair-requires
complement_pair-requires c =
    let b = c.args.bounded.now in
    let o = b.net.now.is_open in
    let z = sizes o in
    let read = c.arc-a.ensures in
    let few = entry-few o b.below_are c.arc-a.result.pair.0 (omega (arith, read.pair)) in
    omega (arith, z.pairs_within, read.pair, few)

pub complement_arc-requires : goal.complement_arc-requires
complement_arc-requires c = small c.arc-a.ensures c.args.bounded.now.net.now.is_open _ c.capacity.ensures

pub returns-in-Original : goal.returns-in-Original
returns-in-Original c = rw c.in-Original.is (c.original_arc.ensures ∙ ap on_original c.arc-a.ensures.is)

pub returns-in-Complement : goal.returns-in-Complement
returns-in-Complement c =
    let read = c.arc-a.ensures in
    let b = c.args.bounded.now in
    rw c.in-Complement.is
    (c.complement_arc.ensures
    ∙ complement-is read b.net.now.is_open b.below_are _ _ _ (own-dead (net_of b.net.now.sheet.now) c.requires.own_arc _ read.is c.requires.dead_value) c.capacity.ensures c.complement_pair.ensures)
