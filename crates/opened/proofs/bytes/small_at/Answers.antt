-- The first byte of a number of 2 bytes below 256 is 0.
use native.Mathlib.Omega.{arith}
use Rattle.heads.specs.Bytes.{u16_at}
use Rattle.opened.proofs.bytes.small_at.Goals as goal

pub returns : goal.returns
unfolding u16_at
returns c = omega arith
