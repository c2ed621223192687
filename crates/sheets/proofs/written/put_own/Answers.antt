use Rattle.sheets.specs.written.Written.{own_bytes}
use Rattle.sheets.proofs.written.Puts.{nothing}
use Rattle.sheets.proofs.written.put_own.Goals as goal

pub put_count-requires : goal.put_count-requires
put_count-requires c = rw c.in-Two.is at c.requires

pub returns-in-One : goal.returns-in-One
unfolding own_bytes
returns-in-One c = rw c.in-One.is nothing

pub returns-in-Two : goal.returns-in-Two
unfolding own_bytes
returns-in-Two c = rw c.in-Two.is c.put_count.ensures
