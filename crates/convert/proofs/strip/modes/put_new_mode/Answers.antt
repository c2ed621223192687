-- The count of one arc where the version has it, then the fields of the arc, one after the other.
use Rattle.sheets.specs.written.Puts.{mode_size}
use Rattle.convert.proofs.ArcPuts.{room-left, room_for, fields_put}
use Rattle.convert.proofs.strip.Parts.{group_put}
use Rattle.convert.proofs.strip.modes.put_new_mode.Goals as goal

pub put_arc_mode-to_pair-requires : goal.put_arc_mode-to_pair-requires
put_arc_mode-to_pair-requires c =
    room_for c.put_own-to_mode.ensures (mode_size c.args.version) 14 c.requires.version_in_bounds

pub put16-to_pre-requires : goal.put16-to_pre-requires
put16-to_pre-requires c =
    room_for c.put_arc_mode-to_pair.ensures 2 12 (room-left c.put_own-to_mode.ensures _ c.requires.version_in_bounds)

pub put32-to_post-requires : goal.put32-to_post-requires
put32-to_post-requires c =
    room_for c.put16-to_pre.ensures 4 8 (room-left c.put_arc_mode-to_pair.ensures 14 (room-left c.put_own-to_mode.ensures _ c.requires.version_in_bounds))

pub put32-to_inhibitor-requires : goal.put32-to_inhibitor-requires
put32-to_inhibitor-requires c =
    room_for c.put32-to_post.ensures 4 4
    (room-left c.put16-to_pre.ensures 12 (room-left c.put_arc_mode-to_pair.ensures 14 (room-left c.put_own-to_mode.ensures _ c.requires.version_in_bounds)))

pub put32-requires : goal.put32-requires
put32-requires c =
    room-left c.put32-to_inhibitor.ensures 4
    (room-left c.put32-to_post.ensures 8
    (room-left c.put16-to_pre.ensures 12 (room-left c.put_arc_mode-to_pair.ensures 14 (room-left c.put_own-to_mode.ensures _ c.requires.version_in_bounds))))

pub returns : goal.returns
returns c =
    let a = c.args in
    group_put a.version a.before a.pair a.n c.put_own-to_mode.ensures
    (fields_put _ _ c.put_arc_mode-to_pair.ensures c.put16-to_pre.ensures c.put32-to_post.ensures c.put32-to_inhibitor.ensures c.put32.ensures)

pub shape_of-out : goal.shape_of-out
shape_of-out c = (returns c).kept
