-- `long`, or what the sheets give.
use borrow.Author.Tests.{lt-ltb, le-ltb}
use lib.ListN.{length}
use native.Mathlib.Omega.{arith}
use Rattle.statement.specs.Replay.{replay_text}
use Rattle.writes.proofs.Writing.{within}
use Rattle.statement.proofs.put_text.Goals as goal

pub returns-then-input-gt65536 : goal.returns-then-input-gt65536
unfolding replay_text
returns-then-input-gt65536 c =
    rw (lt-ltb 65536 (length c.args.input.now) (omega (arith, c.if-input-gt65536.true)))
    (within c.put_long.ensures (omega (arith, c.put_long.ensures.within)))

pub returns : goal.returns
unfolding replay_text
returns c =
    rw (le-ltb 65536 (length c.args.input.now) (omega (arith, c.if-input-gt65536.false))) c.put_sheets.ensures
