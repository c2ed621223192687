-- A refused run is handed back whole; what follows an accepted sheet is what is left when it is dropped.
use Prim.Native.Nat.{◌-◌}
use native.Mathlib.Omega.{arith}
use lib.ListN.{length, drop, length-drop}
use lib.Seq.{take_all}
use Rattle.heads.specs.Layout.{sheet_end}
use Rattle.sheets.specs.Whole.{rest}
use Rattle.sheets.proofs.whole.after.Goals as goal

pub returns-in-Err : goal.returns-in-Err
unfolding rest
returns-in-Err c = rw c.in-Err.is

pub sheet_end-end-requires : goal.sheet_end-end-requires
sheet_end-end-requires c = omega (arith, c.requires c.in_default.is)

pub slice_bounds-result-count : goal.slice_bounds-result-count
slice_bounds-result-count c = omega (arith, c.requires c.in_default.is)

pub slice_bounds-result-start : goal.slice_bounds-result-start
slice_bounds-result-start c = omega (arith, c.requires c.in_default.is)

pub returns : goal.returns
unfolding rest
returns c =
    let s = c.args.s.now in
    rw (c.in_default.is, c.sheet_end-end.ensures)
    (take_all (length s - sheet_end s) (drop (sheet_end s) s) (omega (arith, length-drop (sheet_end s) s)))
