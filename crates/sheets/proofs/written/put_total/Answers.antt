use mathlib.Core.Path.{sym}
use Rattle.sheets.proofs.written.Puts.{nothing, put_length, room_as, puts_as, count_fits}
use Rattle.sheets.proofs.written.Versions.{total-one, total-two}
use Rattle.sheets.proofs.written.put_total.Goals as goal

pub put_count-requires : goal.put_count-requires
put_count-requires c = (count_fits _ (room_as (sym (total-one _ c.in-One.is)) c.requires.room), c.requires.arcs_bound)

pub returns-in-One : goal.returns-in-One
returns-in-One c = puts_as (total-one _ c.in-One.is) (put_length c.put_count.ensures)

pub returns-in-Two : goal.returns-in-Two
returns-in-Two c = puts_as (total-two _ c.in-Two.is) (put_length nothing)
