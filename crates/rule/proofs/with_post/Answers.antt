-- M + Post.
use native.Mathlib.Omega.{arith}
use Rattle.rule.proofs.with_post.Goals as goal

pub returns : goal.returns
returns c = omega arith
