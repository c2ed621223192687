-- The arc count where the version says it, and the arcs mode by mode.
use mathlib.Core.Path.{sym}
use native.Mathlib.Omega.{arith}
use Rattle.opened.proofs.Shapes.{sizes}
use Rattle.sheets.proofs.written.Puts.{room_as, puts_as, room-first, room_next, puts-both}
use Rattle.convert.proofs.Parts.{section_parts}
use Rattle.convert.proofs.sheet.put_section.Goals as goal

pub put_total-next-requires : goal.put_total-next-requires
put_total-next-requires c = record { room = room-first _ _ (room_as (section_parts c.args.net.now.is_open _) c.requires.room); arcs_bound = omega (arith, (sizes c.args.net.now.is_open).arcs_within) }

pub put_groups-requires : goal.put_groups-requires
put_groups-requires c = let room = room_next _ _ (room_as (section_parts c.args.net.now.is_open _) c.requires.room) c.put_total-next.ensures in record { starts_are = c.starts-starts.ensures; room = room }

pub returns : goal.returns
returns c =
    puts_as (sym (section_parts c.args.net.now.is_open _)) (puts-both c.put_total-next.ensures c.put_groups.ensures)

pub shape_of-out : goal.shape_of-out
shape_of-out c = (returns c).kept
