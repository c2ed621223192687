-- What a dead mode takes it gives back.
use native.Mathlib.Omega.{arith}
use Rattle.counterpart.proofs.given_back.Goals as goal

pub returns-else-dead : goal.returns-else-dead
returns-else-dead c = rw c.if-dead.false (omega arith)
