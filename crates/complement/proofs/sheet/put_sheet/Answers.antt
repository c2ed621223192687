-- The records and the arcs, then what stands before them.
use mathlib.Core.Path.{refl}
use native.Mathlib.Omega.{arith}
use Rattle.second_form.specs.Complement.{complement}
use Rattle.sheets.specs.Decoded.{net_of}
use Rattle.sheets.proofs.written.Puts.{room-first, room_next, puts-both}
use Rattle.complement.proofs.SheetParts.{sheet-few}
use Rattle.complement.proofs.Last.{rest-room, counts-room, ends-sheet, whole-sheet}
use Rattle.complement.proofs.sheet.put_sheet.Goals as goal

pub overflow_add-at_records : goal.overflow_add-at_records
overflow_add-at_records c =
    let room = rest-room _ _ c.requires.room refl in
    omega (arith, room.fits, c.head_size-at_records.ensures)

pub put_records-at_arcs-requires : goal.put_records-at_arcs-requires
put_records-at_arcs-requires c = let pre = c.requires in record { room = room-first _ _ (rest-room _ _ pre.room (omega (arith, c.head_size-at_records.ensures))) }

pub put_counted_arcs-end-requires : goal.put_counted_arcs-end-requires
put_counted_arcs-end-requires c = let pre = c.requires in
    let room = room_next _ _ (rest-room _ _ pre.room (omega (arith, c.head_size-at_records.ensures))) c.put_records-at_arcs.ensures in record { starts_are = pre.starts_are; dead_are = pre.dead_are; room = room }

pub put_counts-requires : goal.put_counts-requires
put_counts-requires c = let pre = c.requires in
    let most = pre.sizes_with in
    let version = c.args.bounded.now.net.now.shape.version in
    let net = complement (net_of c.args.bounded.now.net.now.sheet.now) in
    let rest = puts-both c.put_records-at_arcs.ensures c.put_counted_arcs-end.ensures in
    let size = ends-sheet version net (omega (arith, c.head_size-at_records.ensures)) rest in record { places_value = (most.0.places, most.1.places); size_value = (size, omega (arith, size, sheet-few c.args.bounded.now.net.now.is_open pre.starts_are most.0 most.1)); room = counts-room version net pre.room rest }

pub returns : goal.returns
returns c =
    let rest = puts-both c.put_records-at_arcs.ensures c.put_counted_arcs-end.ensures in
    whole-sheet c.args.bounded.now.net.now.shape.version (complement (net_of c.args.bounded.now.net.now.sheet.now)) c.head_size-at_records.ensures rest c.put_counts.ensures
