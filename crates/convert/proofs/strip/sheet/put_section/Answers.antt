-- The arc count where the version says it, the old arcs mode by mode, and the new.
use native.Mathlib.Omega.{arith}
use Rattle.convert.proofs.strip.Parts.{numbers}
use Rattle.convert.proofs.strip.PartRooms.{total-room, old_room, new-room, section_put}
use Rattle.convert.proofs.strip.sheet.put_section.Goals as goal

pub put_total-at_old-requires : goal.put_total-at_old-requires
put_total-at_old-requires c = let pre = c.requires in record { room = total-room pre.strips pre.room; arcs_bound = omega (arith, numbers pre.strips) }

pub put_groups-at_new-requires : goal.put_groups-at_new-requires
put_groups-at_new-requires c = let pre = c.requires in record { starts_are = c.starts-starts.ensures; room = old_room pre.strips pre.room c.put_total-at_old.ensures }

pub put_new_modes-requires : goal.put_new_modes-requires
put_new_modes-requires c = let pre = c.requires in record { many_bound = (numbers pre.strips).modes; room = new-room pre.strips pre.room c.put_total-at_old.ensures c.put_groups-at_new.ensures }

pub returns : goal.returns
returns c =
    section_put c.requires.strips c.put_total-at_old.ensures c.put_groups-at_new.ensures c.put_new_modes.ensures

pub overflow_add-k : goal.overflow_add-k
overflow_add-k c = omega (arith, numbers c.requires.strips)

pub overflow_add-net : goal.overflow_add-net
overflow_add-net c = omega (arith, numbers c.requires.strips)

pub overflow_add-k-2 : goal.overflow_add-k-2
overflow_add-k-2 c = omega (arith, numbers c.requires.strips)

pub shape_of-out : goal.shape_of-out
shape_of-out c = (returns c).kept
