-- The arcs, and their count before them where the version has it.
use mathlib.Core.Path.{refl}
use native.Mathlib.Omega.{arith}
use Rattle.sheets.specs.Decoded.{net_of}
use Rattle.opened.proofs.Shapes.{sizes}
use Rattle.sheets.proofs.written.Puts.{put_length, puts-before}
use Rattle.complement.specs.sections.Arcs.{row_arcs}
use Rattle.complement.proofs.sections.Fields.{bytes_as, ends_as}
use Rattle.complement.proofs.sections.Rows.{row-few}
use Rattle.complement.proofs.sections.Counted.{halves_room, own_room, own-few, own_is}
use Rattle.complement.proofs.sections.arcs.put_mode.Goals as goal

pub overflow_add-start : goal.overflow_add-start
overflow_add-start c =
    let room = halves_room c.args.bounded.now.net.now.shape.version (row_arcs (net_of c.args.bounded.now.net.now.sheet.now) c.args.arcs.mode.0) c.requires.room c.own_size.ensures refl in
    omega (arith, room.fits)

pub put_halves-next-requires : goal.put_halves-next-requires
put_halves-next-requires c = let pre = c.requires in
    let arcs = row_arcs (net_of c.args.bounded.now.net.now.sheet.now) c.args.arcs.mode.0 in record { mode_arcs = pre.mode_arcs; dead_value = pre.dead_value; room = halves_room c.args.bounded.now.net.now.shape.version arcs pre.room c.own_size.ensures refl }

pub put_own-requires : goal.put_own-requires
put_own-requires c =
    let pre = c.requires in
    let v = c.args.bounded.now.net.now.shape.version in
    let net = net_of c.args.bounded.now.net.now.sheet.now in
    let arcs = row_arcs net c.args.arcs.mode.0 in
    let z = sizes c.args.bounded.now.net.now.is_open in
    let few = row-few net c.args.arcs.mode.0 in
    (own_room v arcs pre.room c.own_size.ensures refl c.put_halves-next.ensures, own-few v arcs pre.room c.own_size.ensures refl c.put_halves-next.ensures (omega (arith, few, z.pairs, z.pairs_within)))

pub returns : goal.returns
returns c =
    let arcs = row_arcs (net_of c.args.bounded.now.net.now.sheet.now) c.args.arcs.mode.0 in
    let count = own_is c.args.bounded.now.net.now.shape.version arcs c.requires.room c.own_size.ensures refl c.put_halves-next.ensures in
    put_length (puts-before c.put_halves-next.ensures (ends_as (omega (arith, c.own_size.ensures)) (bytes_as count c.put_own.ensures)))
