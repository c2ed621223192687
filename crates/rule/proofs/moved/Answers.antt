-- No more than the count is taken off it.
use native.Mathlib.Omega.{arith}
use Rattle.rule.proofs.moved.Goals as goal

pub returns : goal.returns
returns c = omega arith
