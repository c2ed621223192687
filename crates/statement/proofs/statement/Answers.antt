-- A slice that is too short is left as it was; any other has room for the text.
use Prim.Native.Nat.{◌≤◌, ◌<◌}
use lib.ListN.{length}
use native.Mathlib.Omega.{arith}
use Rattle.statement.specs.Replay.{room}
use Rattle.statement.proofs.Stating.{too_short_lem, text-stated}
use Rattle.statement.proofs.statement.Goals as goal

pub returns-then-out-lt262144 : goal.returns-then-out-lt262144
returns-then-out-lt262144 c = let short : length c.args.out.now < room = omega (arith, c.if-out-lt262144.true) in too_short_lem _ _ short

pub returns : goal.returns
returns c =
    let enough : room ≤ length c.args.out.now = omega (arith, c.if-out-lt262144.false) in
    text-stated _ enough c.put_text.ensures
