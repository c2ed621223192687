-- Three parts in turn.
use mathlib.Core.Path.{sym}
use Rattle.sheets.proofs.written.Puts.{room_as, puts_as, room-first, room_next, puts-both}
use Rattle.convert.proofs.strip.Parts.{sheet-parts}
use Rattle.convert.proofs.strip.sheet.put_sheet.Goals as goal

pub put_counts-at_records-requires : goal.put_counts-at_records-requires
put_counts-at_records-requires c = record { strips = c.requires.strips; room = room-first _ _ (room_as (sheet-parts _ _ _ _) c.requires.room) }

pub put_records-at_arcs-requires : goal.put_records-at_arcs-requires
put_records-at_arcs-requires c = record { strips = c.requires.strips; room = room-first _ _ (room_next _ _ (room_as (sheet-parts _ _ _ _) c.requires.room) c.put_counts-at_records.ensures) }

pub put_section-requires : goal.put_section-requires
put_section-requires c = record { strips = c.requires.strips; room = room_next _ _ (room_next _ _ (room_as (sheet-parts _ _ _ _) c.requires.room) c.put_counts-at_records.ensures) c.put_records-at_arcs.ensures }

pub returns : goal.returns
returns c =
    puts_as (sym (sheet-parts _ _ _ _)) (puts-both c.put_counts-at_records.ensures (puts-both c.put_records-at_arcs.ensures c.put_section.ensures))

pub shape_of-out : goal.shape_of-out
shape_of-out c = (returns c).kept
