-- What stands in the sheet that was read, with K + 1 between the old transitions and the pairs.
use native.Mathlib.Omega.{arith}
use Rattle.sheets.proofs.nets.Valid.{headed}
use Rattle.convert.proofs.strip.Parts.{records_there, numbers}
use Rattle.convert.proofs.strip.PartRooms.{numbers-room, count_room, pairs-room, records_put}
use Rattle.convert.proofs.strip.sheet.put_records.Goals as goal

pub put_part-at_new-requires : goal.put_part-at_new-requires
put_part-at_new-requires c = let o = c.requires.strips.opened in
    let fields = c.fields_at-numbers.ensures in record { n_in_bounds = omega (arith, fields.0, records_there o); room = numbers-room o c.args.net.now.are_bytes fields.0 _ c.requires.room }

pub put_count-at_pairs-requires : goal.put_count-at_pairs-requires
put_count-at_pairs-requires c =
    (count_room c.requires.strips.opened c.args.net.now.are_bytes c.fields_at-numbers.ensures.0 _ c.requires.room c.put_part-at_new.ensures, omega (arith, numbers c.requires.strips))

pub put_part-requires : goal.put_part-requires
put_part-requires c = let o = c.requires.strips.opened in record { n_in_bounds = omega (arith, c.fields_at-numbers.ensures.0, records_there o); room = pairs-room o c.args.net.now.are_bytes c.fields_at-numbers.ensures.0 _ c.requires.room c.put_part-at_new.ensures c.put_count-at_pairs.ensures }

pub returns : goal.returns
returns c =
    records_put c.requires.strips.opened c.args.net.now.are_bytes c.fields_at-numbers.ensures.0 c.args.k c.put_part-at_new.ensures c.put_count-at_pairs.ensures c.put_part.ensures

pub fields_at-numbers-requires : goal.fields_at-numbers-requires
fields_at-numbers-requires c = headed _ c.requires.strips.opened.accepted

pub overflow_mul-size : goal.overflow_mul-size
overflow_mul-size c = omega (arith, numbers c.requires.strips)

pub overflow_mul-size-2 : goal.overflow_mul-size-2
overflow_mul-size-2 c = omega (arith, numbers c.requires.strips)

pub overflow_add-size : goal.overflow_add-size
overflow_add-size c = omega (arith, numbers c.requires.strips)

pub overflow_add-k : goal.overflow_add-k
overflow_add-k c = omega (arith, numbers c.requires.strips)

pub overflow_add-numbers-2 : goal.overflow_add-numbers-2
overflow_add-numbers-2 c = omega (arith, numbers c.requires.strips, c.fields_at-numbers.ensures.1)

pub overflow_mul-net : goal.overflow_mul-net
overflow_mul-net c = omega (arith, numbers c.requires.strips)

pub shape_of-out : goal.shape_of-out
shape_of-out c = (returns c).kept
