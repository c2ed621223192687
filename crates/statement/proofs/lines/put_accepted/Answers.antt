-- The position, the mode, the answer, the figure.
use Rattle.statement.specs.lines.Lines.{line, accepted_line}
use mir.Facts.{to_z-of_z}
use native.Mathlib.Omega.{arith}
use Rattle.text.specs.Decimals.{decimal, decimal_within}
use Rattle.writes.proofs.Writing.{◌and◌}
use Rattle.writes.proofs.Room.{room, room_for, up-to}
use Rattle.statement.proofs.lines.put_accepted.Goals as goal

pub write_to_eight-second-requires : goal.write_to_eight-second-requires
write_to_eight-second-requires c = let pre = c.requires in record { n_bound = search arith; at_in_bounds = room_for 8 55 c.write_byte-space.ensures (room 64 c.write_decimal_by-first.ensures pre.at_in_bounds) }

pub write_bytes-answer-requires : goal.write_bytes-answer-requires
write_bytes-answer-requires c =
    room_for 3 52 c.write_to_eight-second.ensures (room 63 c.write_byte-space.ensures (room 64 c.write_decimal_by-first.ensures c.requires.at_in_bounds))

pub write_signed_by-end-requires : goal.write_signed_by-end-requires
write_signed_by-end-requires c = let pre = c.requires in record { at_in_bounds = room_for 21 31 c.write_bytes-answer.ensures (room 55 c.write_to_eight-second.ensures (room 63 c.write_byte-space.ensures (room 64 c.write_decimal_by-first.ensures pre.at_in_bounds))) }

pub write_byte-requires : goal.write_byte-requires
write_byte-requires c =
    room_for 1 31 c.write_signed_by-end.ensures
    (room 52 c.write_bytes-answer.ensures (room 55 c.write_to_eight-second.ensures (room 63 c.write_byte-space.ensures (room 64 c.write_decimal_by-first.ensures c.requires.at_in_bounds))))

pub returns : goal.returns
unfolding line accepted_line decimal decimal_within
returns c =
    let all =
    c.write_decimal_by-first.ensures and c.write_byte-space.ensures and c.write_to_eight-second.ensures and c.write_bytes-answer.ensures
    and c.write_signed_by-end.ensures and c.write_byte.ensures in
    rw (← to_z-of_z c.ranges.figure, ← c.from.ensures) (up-to 31 all)
