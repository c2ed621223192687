-- A space, the figure, the end of the line.
use mir.Facts.{to_z-of_z}
use native.Mathlib.Omega.{arith}
use Rattle.writes.proofs.Writing.{◌and◌}
use Rattle.text.proofs.Sizes.{signed-size}
use Rattle.statement.proofs.lines.words.last_figure.Goals as goal

pub write_signed-end-requires : goal.write_signed-end-requires
write_signed-end-requires c =
    let fits = c.ranges.figure in
    rw (to_z-of_z fits) (omega (arith, signed-size fits))

pub returns : goal.returns
returns c =
    rw (← to_z-of_z c.ranges.figure) (c.write_byte-word.ensures and c.write_signed-end.ensures and c.write_byte.ensures)
