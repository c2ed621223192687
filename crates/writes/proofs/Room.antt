-- What room is left after bytes are written: the laws that the needs of the next word cite, so that no need is searched for among all that is known by then.
use Prim.Native.Nat.{ℕ, ◌+◌, ◌≤◌}
use mathlib.Core.List.{List}
use lib.ListN.{length}
use native.Mathlib.Omega.{arith}
use Rattle.writes.specs.Writes.{Writes}
use Rattle.writes.proofs.Writing.{within, length-kept}

module _ {out then : List ℕ} {at after most : ℕ} {bytes : List ℕ} where
  pub room : (left : ℕ) → Writes most out at bytes after then → at + (most + left) ≤ length out → after + left ≤ length then
  room left p h = omega (arith, p.next, p.within, length-kept p)

  -- of what is left a part is asked for, and the rest is spare
  pub room_for : (asked spare : ℕ) → Writes most out at bytes after then → at + (most + (asked + spare)) ≤ length out → after + asked ≤ length then
  room_for asked spare p h = omega (arith, p.next, p.within, length-kept p)

  -- the same bytes, with a bound that has room to spare
  pub up-to : (spare : ℕ) → Writes most out at bytes after then → Writes (most + spare) out at bytes after then
  up-to spare p = within p (omega (arith, p.within))
