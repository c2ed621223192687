-- Four parts in turn.
use Rattle.sheets.proofs.written.Puts.{put_length, count_fits, room-first, room_next, puts-both}
use Rattle.import.proofs.sheet.put_counts.Goals as goal

pub put_count-to_transitions-requires : goal.put_count-to_transitions-requires
put_count-to_transitions-requires c = let pre = c.requires in (count_fits _ (room-first _ _ pre.room), pre.places_bound.0)

pub put_count-to_colours-requires : goal.put_count-to_colours-requires
put_count-to_colours-requires c =
    let pre = c.requires in
    (count_fits _ (room-first _ _ (room_next _ _ pre.room (put_length c.put_count-to_transitions.ensures))), pre.places_bound.1)

pub returns : goal.returns
returns c =
    puts-both (put_length c.put_count-to_transitions.ensures) (puts-both (put_length c.put_count-to_colours.ensures) (puts-both c.put_ones-to_modes.ensures c.put_ones.ensures))
