-- A number, then the end of the line.
use Rattle.writes.proofs.Writing.{◌and◌}
use Rattle.statement.proofs.lines.words.last_decimal.Goals as goal

pub returns : goal.returns
returns c =
    c.next_decimal-end.ensures and c.write_byte.ensures
