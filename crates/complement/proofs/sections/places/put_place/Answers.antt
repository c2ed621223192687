-- No colour, no place.
use mathlib.Core.Path.{sym}
use native.Mathlib.Omega.{arith}
use Rattle.sheets.proofs.written.Puts.{nothing, put_length, room_as, puts_as, count_fits}
use Rattle.complement.proofs.sections.PlaceHalves.{no_place_bytes, one-place_bytes}
use Rattle.complement.proofs.sections.places.put_place.Goals as goal

pub returns-then-colours-eq0 : goal.returns-then-colours-eq0
returns-then-colours-eq0 c = puts_as (no_place_bytes c.if-colours-eq0.true) nothing

pub put_count-requires : goal.put_count-requires
put_count-requires c =
    let pre = c.requires in
    (count_fits _ (room_as (sym (one-place_bytes c.if-colours-eq0.false)) pre.room), omega (arith, pre.colours_bound))

pub returns : goal.returns
returns c = puts_as (one-place_bytes c.if-colours-eq0.false) (put_length c.put_count.ensures)
