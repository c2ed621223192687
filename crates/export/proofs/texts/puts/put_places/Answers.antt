use mathlib.Core.Path.{ap}
use native.Mathlib.Omega.{arith}
use Rattle.opened.proofs.Shapes.{sizes}
use Rattle.sheets.proofs.written.Puts.{puts_as, puts_none, puts-more}
use Rattle.pnml.specs.Pnml.{place_text}
use Rattle.export.proofs.texts.Texts.{put_of, for_more, place-fits}
use Rattle.export.proofs.texts.puts.put_places.Goals as goal

pub put_place-next-requires : goal.put_place-next-requires
put_place-next-requires c = let l = c.loop-p in
    let pre = c.requires in
    let below = c.loop-p-test.true in
    let room = for_more _ l.p l.invariant _ pre.room_for below in record { pair_bound = (omega (arith, below, (sizes c.args.net.now.is_open).pairs_within), c.start_count.ensures.1); at_in_bounds = place-fits l.p _ room }

pub loop-p-preserved : goal.loop-p-preserved
loop-p-preserved c =
    let l = c.loop-p in
    puts-more _ l.p l.invariant (puts_as (ap (place_text l.p) c.start_count.ensures.0) (put_of c.put_place-next.ensures))

pub loop-p-init : goal.loop-p-init
loop-p-init c = puts_none _

pub overflow_cast-pair : goal.overflow_cast-pair
overflow_cast-pair c = omega (arith, (sizes c.args.net.now.is_open).pairs_within)
