-- The count is in the sheet, and is the place's.
use Prim.Native.Nat.{◌+◌, ◌*◌, ◌≤◌}
use lib.ListN.{length}
use native.Mathlib.Omega.{arith}
use Rattle.sheets.proofs.nets.Valid.{headed}
use Rattle.opened.proofs.Shapes.{place-there, colours-read}
use Rattle.opened.proofs.shape.colours_of.Goals as goal

pub returns : goal.returns
returns c =
    colours-read c.args.net.now.is_open _ _ c.requires.place_lt_places (rw c.fields_at.ensures.0 at c.count_at.ensures.0)

pub fields_at-requires : goal.fields_at-requires
fields_at-requires c = headed _ c.args.net.now.is_open.accepted

pub overflow_mul-place : goal.overflow_mul-place
overflow_mul-place c = let there : let a = c.args in c.fields_at.result + 4 + 2 * a.place + 2 ≤ length a.net.now.sheet.now = omega (arith, c.fields_at.ensures.0, place-there c.args.net.now.is_open _ c.requires.place_lt_places) in
    omega (arith, there)

pub overflow_add-fields_at-2 : goal.overflow_add-fields_at-2
overflow_add-fields_at-2 c = let there : let a = c.args in c.fields_at.result + 4 + 2 * a.place + 2 ≤ length a.net.now.sheet.now = omega (arith, c.fields_at.ensures.0, place-there c.args.net.now.is_open _ c.requires.place_lt_places) in
    omega (arith, there)

pub count_at-requires : goal.count_at-requires
count_at-requires c = let there : let a = c.args in c.fields_at.result + 4 + 2 * a.place + 2 ≤ length a.net.now.sheet.now = omega (arith, c.fields_at.ensures.0, place-there c.args.net.now.is_open _ c.requires.place_lt_places) in
    there
