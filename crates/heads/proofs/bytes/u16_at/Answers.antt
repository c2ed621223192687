use native.Mathlib.Omega.{arith}
use Rattle.heads.specs.Bytes.{u16_at}
use Rattle.heads.proofs.bytes.u16_at.Goals as goal

pub returns : goal.returns
unfolding u16_at
returns c = omega arith
