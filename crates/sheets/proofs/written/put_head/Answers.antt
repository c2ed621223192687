use Rattle.sheets.specs.written.Written.{head_bytes}
use Rattle.sheets.proofs.written.Puts.{put_length, room_next, puts-both, long-fits}
use Rattle.sheets.proofs.written.put_head.Goals as goal

pub put32-next-requires : goal.put32-next-requires
unfolding head_bytes
put32-next-requires c = long-fits _ _ c.requires.room

pub put_version-requires : goal.put_version-requires
unfolding head_bytes
put_version-requires c =
    rw c.from.ensures (room_next _ _ c.requires.room (put_length c.put32-next.ensures))

pub returns : goal.returns
unfolding head_bytes
returns c =
    puts-both (put_length c.put32-next.ensures) (rw c.from.ensures at c.put_version.ensures)
