-- The fields of the arc that was read, one after the other.
use Rattle.convert.proofs.ArcPuts.{room-left, room_for, read_put}
use Rattle.convert.proofs.arcs.put_arc.Goals as goal

pub put16-to_pre-requires : goal.put16-to_pre-requires
put16-to_pre-requires c =
    room_for c.put_arc_mode-to_pair.ensures 2 12 c.requires.version_in_bounds

pub put32-to_post-requires : goal.put32-to_post-requires
put32-to_post-requires c =
    room_for c.put16-to_pre.ensures 4 8 (room-left c.put_arc_mode-to_pair.ensures 14 c.requires.version_in_bounds)

pub put32-to_inhibitor-requires : goal.put32-to_inhibitor-requires
put32-to_inhibitor-requires c =
    room_for c.put32-to_post.ensures 4 4
    (room-left c.put16-to_pre.ensures 12 (room-left c.put_arc_mode-to_pair.ensures 14 c.requires.version_in_bounds))

pub put32-requires : goal.put32-requires
put32-requires c =
    room-left c.put32-to_inhibitor.ensures 4
    (room-left c.put32-to_post.ensures 8
    (room-left c.put16-to_pre.ensures 12 (room-left c.put_arc_mode-to_pair.ensures 14 c.requires.version_in_bounds)))

pub returns : goal.returns
returns c =
    read_put _ c.arc-a.ensures c.put_arc_mode-to_pair.ensures c.put16-to_pre.ensures c.put32-to_post.ensures c.put32-to_inhibitor.ensures c.put32.ensures

pub shape_of-out : goal.shape_of-out
shape_of-out c = (returns c).kept
