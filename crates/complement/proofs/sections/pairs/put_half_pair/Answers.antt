-- The pair itself, or its complement pair.
use mathlib.Core.Path.{sym, ap}
use native.Mathlib.Omega.{arith}
use Rattle.sheets.specs.Decoded.{net_of}
use Rattle.opened.proofs.Shapes.{sizes}
use Rattle.sheets.proofs.written.Puts.{put_length, room_as, puts_as, pair_fits}
use Rattle.halves.specs.Pairs.{half_pair}
use Rattle.halves.proofs.PairHalves.{old_pair}
use Rattle.complement.proofs.sections.pairs.put_half_pair.Goals as goal

pub overflow_cast-pair : goal.overflow_cast-pair
overflow_cast-pair c = let z = sizes c.args.net.now.is_open in omega (arith, z.pairs_within)

pub put_pair-requires : goal.put_pair-requires
put_pair-requires c =
    let a = c.args in
    pair_fits _ _ (room_as (sym (old_pair (net_of a.net.now.sheet.now) _ a.p c.in-Original.is c.start_count.ensures.0)) c.requires.room)

pub put_new_pair-requires : goal.put_new_pair-requires
put_new_pair-requires c = let a = c.args in
    let pre = c.requires in record { pair_lt_pairs = pre.p_lt_pairs; room = room_as (ap (λ half. half_pair (net_of a.net.now.sheet.now) half a.p) c.in-Complement.is) pre.room }

pub returns-in-Original : goal.returns-in-Original
returns-in-Original c =
    let a = c.args in
    puts_as (old_pair (net_of a.net.now.sheet.now) _ a.p c.in-Original.is c.start_count.ensures.0) (put_length c.put_pair.ensures)

pub returns-in-Complement : goal.returns-in-Complement
returns-in-Complement c =
    let a = c.args in
    puts_as (ap (λ half. half_pair (net_of a.net.now.sheet.now) half a.p) (sym c.in-Complement.is)) c.put_new_pair.ensures
