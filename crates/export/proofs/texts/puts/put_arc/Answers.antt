-- Pre, then Post.
use mathlib.Core.Path.{sym}
use native.Mathlib.Omega.{arith}
use Rattle.opened.proofs.Shapes.{sizes}
use Rattle.sheets.proofs.written.Puts.{puts_as, puts-both}
use Rattle.export.proofs.texts.Texts.{arc-parts, for_as, for_first, for_next}
use Rattle.export.proofs.texts.puts.put_arc.Goals as goal

pub put_side-next-requires : goal.put_side-next-requires
put_side-next-requires c = let pre = c.requires in
    let z = sizes c.args.net.now.is_open in
    let is = c.arc-a.ensures in record { mode_bound = (omega (arith, is.mode, z.modes_within), omega (arith, is.pair, z.pairs_within), is.pre); room_for = for_first _ _ (for_as (arc-parts is) pre.room_for) }

pub put_side-requires : goal.put_side-requires
put_side-requires c = let pre = c.requires in
    let z = sizes c.args.net.now.is_open in
    let is = c.arc-a.ensures in
    let room = for_next _ _ (for_as (arc-parts is) pre.room_for) c.put_side-next.ensures in record { mode_bound = (omega (arith, is.mode, z.modes_within), omega (arith, is.pair, z.pairs_within), is.post); room_for = room }

pub returns : goal.returns
returns c = puts_as (sym (arc-parts c.arc-a.ensures)) (puts-both c.put_side-next.ensures c.put_side.ensures)
