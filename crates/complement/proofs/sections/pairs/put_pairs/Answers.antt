-- The original half, then the new one.
use mathlib.Core.Path.{sym}
use Rattle.halves.proofs.PairHalves.{pair_parts}
use Rattle.sheets.proofs.written.Puts.{room_as, puts_as, room-first, room_next, puts-both}
use Rattle.complement.proofs.sections.pairs.put_pairs.Goals as goal

pub put_half_pairs-next-requires : goal.put_half_pairs-next-requires
put_half_pairs-next-requires c = let pre = c.requires in record { room = room-first _ _ (room_as (pair_parts c.args.net.now.is_open) pre.room) }

pub put_half_pairs-requires : goal.put_half_pairs-requires
put_half_pairs-requires c = let pre = c.requires in record { room = room_next _ _ (room_as (pair_parts c.args.net.now.is_open) pre.room) c.put_half_pairs-next.ensures }

pub returns : goal.returns
returns c = puts_as (sym (pair_parts c.args.net.now.is_open)) (puts-both c.put_half_pairs-next.ensures c.put_half_pairs.ensures)
