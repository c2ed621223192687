-- The word, then the figure.
use Rattle.statement.specs.lines.Lines.{line, start_line}
use mir.Facts.{to_z-of_z}
use Rattle.writes.proofs.Writing.{◌and◌}
use Rattle.statement.proofs.lines.put_start.Goals as goal

pub returns : goal.returns
unfolding line start_line
returns c =
    rw (← to_z-of_z c.ranges.figure) (c.write_bytes-word.ensures and c.last_figure.ensures)
