use native.Mathlib.Omega.{arith}
use Rattle.sheets.proofs.written.Puts.{put_length, puts_none, room-more, puts-more, puts-end}
use Rattle.convert.proofs.strip.Parts.{group_fits}
use Rattle.convert.proofs.strip.modes.put_new_modes.Goals as goal

pub put_new_mode-next-requires : goal.put_new_mode-next-requires
put_new_mode-next-requires c = let l = c.loop-n in
    let room = room-more _ l.n l.invariant _ c.requires.room c.loop-n-test.true in record { n_bound = omega (arith, c.requires.many_bound, c.loop-n-test.true); version_in_bounds = group_fits c.args.version c.args.before c.args.pair l.n room }

pub loop-n-preserved : goal.loop-n-preserved
loop-n-preserved c =
    let l = c.loop-n in
    puts-more _ l.n l.invariant (put_length c.put_new_mode-next.ensures)

pub loop-n-init : goal.loop-n-init
loop-n-init c = puts_none _

pub returns : goal.returns
returns c = puts-end _ c.loop-n.n c.loop-n.invariant _ c.loop-n.auto.n-end c.loop-n-test.false
