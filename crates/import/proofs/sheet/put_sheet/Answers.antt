-- The parts of the sheet in turn.
use Rattle.import.proofs.SheetRoom.{head-room, counts-room, pairs-room, total-room, arcs-room, sheet_put}
use Rattle.import.proofs.sheet.put_sheet.Goals as goal

pub put_head-at_counts-requires-clause-room : goal.put_head-at_counts-requires-clause-room
put_head-at_counts-requires-clause-room c = let pre = c.requires in (head-room pre.export_of pre.places_bound pre.size_value).0

pub put_counts-at_pairs-requires-clause-room : goal.put_counts-at_pairs-requires-clause-room
put_counts-at_pairs-requires-clause-room c = let pre = c.requires in (counts-room pre.export_of pre.places_bound pre.size_value c.put_head-at_counts.ensures).0

pub put_places-places-requires-clause-places_in_bounds : goal.put_places-places-requires-clause-places_in_bounds
put_places-places-requires-clause-places_in_bounds c =
    let pre = c.requires in
    pairs-room pre.export_of pre.places_bound pre.size_value c.put_head-at_counts.ensures c.put_counts-at_pairs.ensures

pub put_count-at_arcs-requires : goal.put_count-at_arcs-requires
put_count-at_arcs-requires c =
    let pre = c.requires in
    total-room pre.export_of pre.places_bound pre.size_value c.put_head-at_counts.ensures c.put_counts-at_pairs.ensures c.put_places-places.ensures

pub put_arcs-requires-clause-arcs_in_bounds : goal.put_arcs-requires-clause-arcs_in_bounds
put_arcs-requires-clause-arcs_in_bounds c =
    let pre = c.requires in
    arcs-room pre.export_of pre.places_bound pre.size_value c.put_head-at_counts.ensures c.put_counts-at_pairs.ensures c.put_places-places.ensures c.put_count-at_arcs.ensures

pub returns : goal.returns
returns c =
    let pre = c.requires in
    sheet_put pre.export_of pre.places_bound pre.size_value c.put_head-at_counts.ensures c.put_counts-at_pairs.ensures c.put_places-places.ensures c.put_count-at_arcs.ensures
    c.put_arcs.ensures
