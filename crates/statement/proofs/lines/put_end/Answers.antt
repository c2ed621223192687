-- The word, the movements accepted, the figure.
use Rattle.statement.specs.lines.Lines.{line, end_line}
use mir.Facts.{to_z-of_z}
use Rattle.writes.proofs.Writing.{◌and◌}
use Rattle.statement.proofs.lines.put_end.Goals as goal

pub returns : goal.returns
unfolding line end_line
returns c =
    rw (← to_z-of_z c.ranges.figure) (c.write_bytes-word.ensures and c.next_decimal-first.ensures and c.last_figure.ensures)
