-- The count of the arc's pair is in range, and M - Pre + Post is stored there.
use mathlib.Core.Path.{ap}
use native.Mathlib.Omega.{arith}
use Rattle.model.specs.Nets.{NetArc}
use Rattle.opened.proofs.Shapes.{sizes}
use Rattle.fire.proofs.firing.Meets.{written_is}
use Rattle.fire.proofs.firing.mode.write_arc.Goals as goal

pub bounds-marking-p : goal.bounds-marking-p
bounds-marking-p c =
    omega (arith, (sizes c.args.net.now.is_open).pairs)

pub moved-requires : goal.moved-requires
moved-requires c =
    let read = c.arc-arc.ensures in
    record { post = omega (arith, read.post); count = rw (← ap (λ (a : NetArc). a.pair.0) read.is) at c.requires.writable.in_range }

pub bounds-marking-p-2 : goal.bounds-marking-p-2
bounds-marking-p-2 c =
    omega (arith, (sizes c.args.net.now.is_open).pairs)

pub returns : goal.returns
returns c = written_is _ _ _ _ c.arc-arc.ensures.is c.moved.ensures
