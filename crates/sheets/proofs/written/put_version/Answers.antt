use mathlib.Core.Path.{sym}
use native.Mathlib.Omega.{arith}
use Rattle.sheets.proofs.written.Puts.{puts, put_length, room_as, puts_as}
use Rattle.sheets.proofs.written.Versions.{version-one, version-two}
use Rattle.sheets.proofs.written.put_version.Goals as goal

pub put_byte-requires : goal.put_byte-requires
put_byte-requires c = omega (arith, (room_as (sym (version-one _ c.in-One.is)) c.requires).fits)

pub put_byte-next-requires : goal.put_byte-next-requires
put_byte-next-requires c = omega (arith, (room_as (sym (version-two _ c.in-Two.is)) c.requires).fits)

pub put_byte-requires-in-Two : goal.put_byte-requires-in-Two
put_byte-requires-in-Two c =
    let put = c.put_byte-next.ensures in
    omega (arith, (room_as (sym (version-two _ c.in-Two.is)) c.requires).fits, put.kept, put.next)

pub returns-in-One : goal.returns-in-One
returns-in-One c = puts_as (version-one _ c.in-One.is) (put_length c.put_byte.ensures)

pub returns-in-Two : goal.returns-in-Two
returns-in-Two c = puts_as (version-two _ c.in-Two.is) (put_length (puts c.put_byte-next.ensures c.put_byte-in-Two.ensures))
