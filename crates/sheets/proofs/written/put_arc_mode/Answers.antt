use Rattle.sheets.specs.written.Written.{mode_bytes}
use Rattle.sheets.proofs.written.Puts.{nothing}
use Rattle.sheets.proofs.written.put_arc_mode.Goals as goal

pub put16-requires : goal.put16-requires
put16-requires c = rw c.in-One.is at c.requires

pub returns-in-One : goal.returns-in-One
unfolding mode_bytes
returns-in-One c = rw c.in-One.is c.put16.ensures

pub returns-in-Two : goal.returns-in-Two
unfolding mode_bytes
returns-in-Two c = rw c.in-Two.is nothing
