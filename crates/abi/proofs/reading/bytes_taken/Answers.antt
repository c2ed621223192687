-- What an accepted sheet takes is what is dropped from the run; a refused run is handed back whole.
use Prim.Native.Nat.{◌-◌}
use mathlib.Core.Path.{◌≡◌}
use native.Mathlib.Omega.{arith}
use lib.ListN.{length, drop, length-drop}
use Rattle.heads.specs.Layout.{sheet_end}
use Rattle.sheets.specs.Whole.{rest}
use Rattle.abi.proofs.reading.bytes_taken.Goals as goal

pub sheet_end-requires : goal.sheet_end-requires
sheet_end-requires c = omega (arith, c.requires c.in-Ok.is)

pub returns-in-Ok : goal.returns-in-Ok
unfolding rest
returns-in-Ok c =
    let s = c.args.s.now in
    let accepted = c.in-Ok.is in
    let kept : length s - length (drop (sheet_end s) s) ≡ sheet_end s = simp length-drop (omega (arith, c.requires accepted)) in
    rw (c.into-answer.ensures, accepted, kept, c.sheet_end.ensures)

pub returns-in-Err : goal.returns-in-Err
unfolding rest
returns-in-Err c =
    let s = c.args.s.now in
    let none_kept : length s - length s ≡ 0 = omega arith in
    rw (c.into-answer.ensures, c.in-Err.is, none_kept)
