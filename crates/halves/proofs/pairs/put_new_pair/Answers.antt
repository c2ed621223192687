-- K is unbounded, or the first marking is within it.
use mathlib.Core.Path.{sym, ◌∙◌}
use native.Mathlib.Omega.{arith}
use Rattle.sheets.proofs.written.Puts.{nothing, put_length, room_as, puts_as, pair_fits}
use Rattle.fields.proofs.BoundNumbers.{finite-is, unbounded-is}
use Rattle.halves.proofs.PairHalves.{start-within, new-pair}
use Rattle.halves.proofs.pairs.put_new_pair.Goals as goal

pub overflow_sub-k : goal.overflow_sub-k
overflow_sub-k c =
    let pre = c.requires in
    let e = sym c.capacity-k.ensures ∙ finite-is _ (sym c.if-is_finite.ensures) in
    omega (arith, start-within c.args.net.now.is_open _ _ pre.pair_lt_pairs e, c.start_count.ensures.0)

pub put_pair-requires : goal.put_pair-requires
put_pair-requires c =
    let e = sym c.capacity-k.ensures ∙ finite-is _ (sym c.if-is_finite.ensures) in
    pair_fits _ _ (room_as (sym (new-pair e c.start_count.ensures.0)) c.requires.room)

pub returns-then-is_finite : goal.returns-then-is_finite
returns-then-is_finite c =
    let e = sym c.capacity-k.ensures ∙ finite-is _ (sym c.if-is_finite.ensures) in
    puts_as (new-pair e c.start_count.ensures.0) (put_length c.put_pair.ensures)

pub returns-else-is_finite : goal.returns-else-is_finite
returns-else-is_finite c = rw (sym c.capacity-k.ensures ∙ unbounded-is _ (sym c.if-is_finite.ensures)) nothing
