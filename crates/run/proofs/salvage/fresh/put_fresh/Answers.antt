-- The length, then the part that stands in the damaged bytes.
use mathlib.Core.Path.{sym}
use native.Mathlib.Omega.{arith}
use Rattle.sheets.proofs.written.Puts.{put_length, room_as, puts_as, room_next, puts-both, long-fits}
use Rattle.run.proofs.salvage.Considered.{most-considered, modes-there}
use Rattle.run.proofs.salvage.MovementSheets.{part-kept, first-parts}
use Rattle.run.proofs.salvage.fresh.put_fresh.Goals as goal

pub put32-next-requires : goal.put32-next-requires
put32-next-requires c =
    let pre = c.requires in
    long-fits _ _ (room_as (first-parts _ _ pre.kept_bound) pre.room)

pub put_part-requires : goal.put_part-requires
put_part-requires c = let a = c.args in
    let pre = c.requires in
    let part = part-kept a.damaged.now (λ i. omega (arith, c.type_inv.damaged i)) pre.legible.version a.kept pre.kept_bound in
    let room = room_next _ _ (room_as (first-parts _ _ pre.kept_bound) pre.room) (put_length c.put32-next.ensures) in record { n_in_bounds = omega (arith, pre.kept_bound, modes-there a.damaged.now pre.legible.there); room = room_as (sym part) room }

pub returns : goal.returns
returns c =
    let a = c.args in
    let pre = c.requires in
    let part = part-kept a.damaged.now (λ i. omega (arith, c.type_inv.damaged i)) pre.legible.version a.kept pre.kept_bound in
    puts_as (sym (first-parts _ _ pre.kept_bound))
    (puts-both (put_length c.put32-next.ensures) (puts_as part c.put_part.ensures))

pub overflow_mul-size : goal.overflow_mul-size
overflow_mul-size c = omega (arith, c.requires.kept_bound, most-considered c.args.damaged.now)

pub overflow_add-size : goal.overflow_add-size
overflow_add-size c = omega (arith, c.requires.kept_bound, most-considered c.args.damaged.now)

pub overflow_cast-size : goal.overflow_cast-size
overflow_cast-size c = record { fits = omega (arith, c.requires.kept_bound, most-considered c.args.damaged.now) }
