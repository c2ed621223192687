-- 17, or the first marking.
use mathlib.Core.Path.{refl}
use Rattle.leaving.proofs.Leaving.{leaves-refused, leaves-written}
use Rattle.fire.proofs.Opened.{one_each_lem, not_one-each}
use Rattle.fire.proofs.begin_open.Goals as goal

pub returns-then-marking-net : goal.returns-then-marking-net
returns-then-marking-net c =
    leaves-refused _ (rw (not_one-each c.args.net.now.is_open _ c.if-marking-net.true) c.refused.ensures) c.refused.ensures

pub returns : goal.returns
returns c =
    leaves-written _ (rw (one_each_lem c.args.net.now.is_open _ c.if-marking-net.false)) refl c.write_start.ensures
