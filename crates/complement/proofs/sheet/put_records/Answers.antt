-- Places, modes and pairs.
use Rattle.sheets.proofs.written.Puts.{room-first, room_next, puts-both}
use Rattle.complement.proofs.sheet.put_records.Goals as goal

pub put_places-at_modes-requires : goal.put_places-at_modes-requires
put_places-at_modes-requires c = let pre = c.requires in record { room = room-first _ _ pre.room }

pub put_modes-at_pairs-requires : goal.put_modes-at_pairs-requires
put_modes-at_pairs-requires c = let pre = c.requires in record { room = room-first _ _ (room_next _ _ pre.room c.put_places-at_modes.ensures) }

pub put_pairs-requires : goal.put_pairs-requires
put_pairs-requires c = let pre = c.requires in record { room = room_next _ _ (room_next _ _ pre.room c.put_places-at_modes.ensures) c.put_modes-at_pairs.ensures }

pub returns : goal.returns
returns c = puts-both c.put_places-at_modes.ensures (puts-both c.put_modes-at_pairs.ensures c.put_pairs.ensures)
