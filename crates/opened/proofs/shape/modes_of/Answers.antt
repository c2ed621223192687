-- The count is in the sheet, and is the transition's.
use Prim.Native.Nat.{◌+◌, ◌*◌, ◌≤◌}
use lib.ListN.{length}
use native.Mathlib.Omega.{arith}
use Rattle.sheets.proofs.nets.Valid.{headed}
use Rattle.opened.proofs.Shapes.{transition-there, modes-read}
use Rattle.opened.proofs.shape.modes_of.Goals as goal

pub returns : goal.returns
returns c =
    modes-read c.args.net.now.is_open _ _ c.requires.transition_lt_transitions (rw c.fields_at.ensures.0 at c.count_at.ensures.0)

pub fields_at-requires : goal.fields_at-requires
fields_at-requires c = headed _ c.args.net.now.is_open.accepted

pub overflow_mul-net : goal.overflow_mul-net
overflow_mul-net c = let there : let a = c.args in c.fields_at.result + 4 + 2 * a.net.now.shape.places + 2 * a.transition + 2 ≤ length a.net.now.sheet.now = omega (arith, c.fields_at.ensures.0, transition-there c.args.net.now.is_open _ c.requires.transition_lt_transitions) in
    omega (arith, there)

pub overflow_add-fields_at-2 : goal.overflow_add-fields_at-2
overflow_add-fields_at-2 c = let there : let a = c.args in c.fields_at.result + 4 + 2 * a.net.now.shape.places + 2 * a.transition + 2 ≤ length a.net.now.sheet.now = omega (arith, c.fields_at.ensures.0, transition-there c.args.net.now.is_open _ c.requires.transition_lt_transitions) in
    omega (arith, there)

pub overflow_mul-transition : goal.overflow_mul-transition
overflow_mul-transition c = let there : let a = c.args in c.fields_at.result + 4 + 2 * a.net.now.shape.places + 2 * a.transition + 2 ≤ length a.net.now.sheet.now = omega (arith, c.fields_at.ensures.0, transition-there c.args.net.now.is_open _ c.requires.transition_lt_transitions) in
    omega (arith, there)

pub overflow_add-fields_at-3 : goal.overflow_add-fields_at-3
overflow_add-fields_at-3 c = let there : let a = c.args in c.fields_at.result + 4 + 2 * a.net.now.shape.places + 2 * a.transition + 2 ≤ length a.net.now.sheet.now = omega (arith, c.fields_at.ensures.0, transition-there c.args.net.now.is_open _ c.requires.transition_lt_transitions) in
    omega (arith, there)

pub count_at-requires : goal.count_at-requires
count_at-requires c = let there : let a = c.args in c.fields_at.result + 4 + 2 * a.net.now.shape.places + 2 * a.transition + 2 ≤ length a.net.now.sheet.now = omega (arith, c.fields_at.ensures.0, transition-there c.args.net.now.is_open _ c.requires.transition_lt_transitions) in
    there
