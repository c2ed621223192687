use native.Mathlib.Omega.{arith}
use Rattle.heads.specs.Bytes.{u32_at}
use Rattle.heads.proofs.bytes.u32_at.Goals as goal

pub returns : goal.returns
unfolding u32_at
returns c = omega arith
