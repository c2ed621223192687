-- The head, the place count, the transition count.
use native.Mathlib.Omega.{arith}
use Rattle.convert.proofs.strip.Parts.{numbers, size_small}
use Rattle.convert.proofs.strip.PartRooms.{head-room, places-room, transitions-room, counts_put}
use Rattle.convert.proofs.strip.sheet.put_counts.Goals as goal

pub put_head-at_places-requires : goal.put_head-at_places-requires
put_head-at_places-requires c = let pre = c.requires in
    let size = c.new_size.ensures in
    let small = size_small pre.strips in record { room = head-room pre.strips size pre.room; le_size = (omega (arith, size, small.0), omega (arith, size, small.1)) }

pub put_count-at_transitions-requires : goal.put_count-at_transitions-requires
put_count-at_transitions-requires c =
    let pre = c.requires in
    (places-room pre.strips c.new_size.ensures pre.room c.put_head-at_places.ensures, omega (arith, numbers pre.strips))

pub put_count-requires : goal.put_count-requires
put_count-requires c =
    let pre = c.requires in
    (transitions-room pre.strips c.new_size.ensures pre.room c.put_head-at_places.ensures c.put_count-at_transitions.ensures, omega (arith, numbers pre.strips))

pub returns : goal.returns
returns c =
    counts_put c.requires.strips c.new_size.ensures c.put_head-at_places.ensures c.put_count-at_transitions.ensures c.put_count.ensures

pub new_size-requires : goal.new_size-requires
new_size-requires c = numbers c.requires.strips

pub overflow_add-net : goal.overflow_add-net
overflow_add-net c = omega (arith, numbers c.requires.strips)

pub shape_of-out : goal.shape_of-out
shape_of-out c = (returns c).kept
