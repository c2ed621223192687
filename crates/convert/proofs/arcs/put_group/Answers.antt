-- Their count where the version has it, then the arcs.
use mathlib.Core.Path.{sym, ap}
use native.Mathlib.Omega.{arith}
use Rattle.opened.proofs.Shapes.{sizes}
use Rattle.sheets.specs.written.Written.{own_bytes}
use Rattle.sheets.proofs.written.Puts.{room_as, puts_as, put_length, room-first, room_next, puts-both}
use Rattle.sheets.proofs.written.Versions.{own-length}
use Rattle.convert.proofs.Segments.{segment-count}
use Rattle.convert.proofs.arcs.put_group.Goals as goal

pub put_own-next-requires : goal.put_own-next-requires
put_own-next-requires c =
    let z = sizes c.args.net.now.is_open in
    let count = ap (own_bytes c.args.version) (segment-count _ _ _ _ c.requires.mode_arcs) in
    let room = room_as (sym count) (room-first _ _ c.requires.room) in
    (omega (arith, own-length c.args.version c.args.arcs.count, room.fits), omega (arith, c.requires.mode_arcs.fits, z.arcs, z.arcs_within))

pub put_mode_arcs-requires : goal.put_mode_arcs-requires
put_mode_arcs-requires c = let count = ap (own_bytes c.args.version) (segment-count _ _ _ _ c.requires.mode_arcs) in record { mode_arcs = c.requires.mode_arcs; room = room_next _ _ c.requires.room (puts_as count (put_length c.put_own-next.ensures)) }

pub returns : goal.returns
returns c =
    let count = ap (own_bytes c.args.version) (segment-count _ _ _ _ c.requires.mode_arcs) in
    puts-both (puts_as count (put_length c.put_own-next.ensures)) c.put_mode_arcs.ensures

pub shape_of-out : goal.shape_of-out
shape_of-out c = (returns c).kept
