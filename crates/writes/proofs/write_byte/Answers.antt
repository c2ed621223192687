-- One byte stored is a run of one.
use mathlib.Core.Path.{refl}
use native.Mathlib.Omega.{arith}
use native.Mathlib.Nat.{le_refl}
use Rattle.writes.proofs.Into.{into_one}
use Rattle.writes.proofs.write_byte.Goals as goal

pub returns : goal.returns
returns c = record { next = refl; fits = omega arith; holds = into_one _ _ _ (omega arith); within = le_refl 1 }
