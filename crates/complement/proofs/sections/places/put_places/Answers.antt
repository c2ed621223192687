-- The original half, then the new one.
use mathlib.Core.Path.{sym}
use Rattle.complement.proofs.sections.PlaceHalves.{place-parts}
use Rattle.sheets.proofs.written.Puts.{room_as, puts_as, room-first, room_next, puts-both}
use Rattle.complement.proofs.sections.places.put_places.Goals as goal

pub put_half_places-next-requires : goal.put_half_places-next-requires
put_half_places-next-requires c = let pre = c.requires in record { room = room-first _ _ (room_as (place-parts c.args.bounded.now.net.now.is_open) pre.room) }

pub put_half_places-requires : goal.put_half_places-requires
put_half_places-requires c = let pre = c.requires in record { room = room_next _ _ (room_as (place-parts c.args.bounded.now.net.now.is_open) pre.room) c.put_half_places-next.ensures }

pub returns : goal.returns
returns c = puts_as (sym (place-parts c.args.bounded.now.net.now.is_open)) (puts-both c.put_half_places-next.ensures c.put_half_places.ensures)
