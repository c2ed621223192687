-- The test as it stands, of a figure that is read back from its bits.
use mir.Facts.{to_z-of_z}
use Rattle.statement.proofs.fleet.bounds.is_past.Goals as goal

pub returns : goal.returns
returns c = rw (to_z-of_z c.ranges.figure)
