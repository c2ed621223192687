-- What is copied is a run of the slice.
use mathlib.Core.Path.{refl}
use native.Mathlib.Nat.{le_refl}
use native.Mathlib.Omega.{arith}
use Rattle.writes.proofs.Into.{into_copied}
use Rattle.writes.proofs.write_bytes.Goals as goal

pub returns : goal.returns
returns c =
    record { next = refl; fits = c.requires; holds = into_copied _ _ _ c.requires (omega arith) (omega arith) c.copy_from_slice.ensures.after; within = le_refl _ }
