-- The word, the position, the mode, the answer, the pair and the amount.
use Rattle.writes.proofs.Room.{room, room_for}
use Rattle.statement.proofs.lines.Worded.{refused_worded}
use Rattle.statement.proofs.lines.put_refused.Goals as goal

pub next_decimal-second-requires : goal.next_decimal-second-requires
next_decimal-second-requires c =
    room_for 21 64 c.next_decimal-first.ensures (room 106 c.write_bytes-word.ensures c.requires)

pub next_decimal-third-requires : goal.next_decimal-third-requires
next_decimal-third-requires c =
    room_for 21 43 c.next_decimal-second.ensures (room 85 c.next_decimal-first.ensures (room 106 c.write_bytes-word.ensures c.requires))

pub next_decimal-fourth-requires : goal.next_decimal-fourth-requires
next_decimal-fourth-requires c =
    room_for 21 22 c.next_decimal-third.ensures
    (room 64 c.next_decimal-second.ensures (room 85 c.next_decimal-first.ensures (room 106 c.write_bytes-word.ensures c.requires)))

pub last_decimal-requires : goal.last_decimal-requires
last_decimal-requires c =
    room 22 c.next_decimal-fourth.ensures
    (room 43 c.next_decimal-third.ensures (room 64 c.next_decimal-second.ensures (room 85 c.next_decimal-first.ensures (room 106 c.write_bytes-word.ensures c.requires))))

pub returns : goal.returns
returns c =
    let a = c.args in
    let told = c.line_of-line in
    refused_worded a.refusal told.result.number told.result.position told.ensures.0 told.ensures.1 a.place a.mode told.result.amount told.ensures.2
    c.write_bytes-word.ensures c.next_decimal-first.ensures (rw c.from.ensures at c.next_decimal-second.ensures) c.next_decimal-third.ensures c.next_decimal-fourth.ensures
    c.last_decimal.ensures
