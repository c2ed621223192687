use native.Mathlib.Omega.{arith}
use mathlib.Core.Path.{◌≡◌}
use Rattle.numbers.proofs.Tried.{tries_own}
use Rattle.progress.proofs.Along.{along-none, along-more, along-stops, along-ends}
use Rattle.progress.proofs.count_accepted.Goals as goal

pub loop-k-init : goal.loop-k-init
loop-k-init c = along-none c.requires.marking

pub tried_arcs-arcs-requires : goal.tried_arcs-arcs-requires
tried_arcs-arcs-requires c = let tables = c.requires.tables in record { starts_are = tables.starts_hold }

pub overflow_add-visited : goal.overflow_add-visited
overflow_add-visited c = omega (arith, c.loop-k.invariant.few, c.tried_arcs-arcs.ensures.few)

pub try_movement-requires : goal.try_movement-requires
try_movement-requires c = record { numbered = c.requires.tables.numbered; tries = tries_own c.tried_arcs-arcs.ensures; marking = c.loop-k.invariant.marking }

pub returns-then-not-try_movement : goal.returns-then-not-try_movement
returns-then-not-try_movement c =
    along-stops c.loop-k.invariant (omega (arith, c.loop-k-test.true)) c.mode_at.ensures c.tried_arcs-arcs.ensures c.try_movement.ensures (omega arith) (omega arith) c.if-not-try_movement.true

pub loop-k-preserved : goal.loop-k-preserved
loop-k-preserved c =
    along-more c.loop-k.invariant (omega (arith, c.loop-k-test.true)) c.mode_at.ensures c.tried_arcs-arcs.ensures c.try_movement.ensures (omega arith) c.if-not-try_movement.false

pub returns : goal.returns
returns c =
    let e : c.loop-k.k ≡ c.args.count = omega arith in
    rw e at (along-ends c.loop-k.invariant (omega (arith, c.loop-k-test.false)))
