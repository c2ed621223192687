-- The line of the refused movement, then `end`.
use native.Mathlib.Omega.{arith}
use mir.Facts.{to_z-of_z}
use Rattle.sheets.proofs.Listed.{movements-within}
use Rattle.writes.proofs.Writing.{◌and◌}
use Rattle.statement.proofs.movements.put_stop.Goals as goal

pub overflow_add-accepted : goal.overflow_add-accepted
overflow_add-accepted c =
    let pre = c.requires in
    record { fits = omega (arith, pre.accepted_in_bounds, movements-within _ c.args.movements.now.is_listed) }

pub returns : goal.returns
returns c =
    rw (← to_z-of_z c.ranges.figure, ← c.movement-mode.ensures) (c.put_refused-line.ensures and c.put_end.ensures)
