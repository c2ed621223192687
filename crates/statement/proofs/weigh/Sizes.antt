-- Sizes: what keeps an exact product and an exact sum within 64 bits.
use Prim.Native.Nat.{ℕ, ◌*◌, ◌^◌, ◌≤◌, ◌<◌}
use mathlib.Core.Logic.{⊎_elim}
use lib.IntN.{ℤ, pos, negsuc, nat_abs, ◌*ℤ◌, ◌-ℤ◌}
use lib.Signed.{mag}
use mir.Syntax.{Width}
use mir.Val.{SFits, hbits}
use native.Mathlib.Omega.{arith}
use native.Mathlib.Nat.{le_trans, mul-le-mul_left, mul-le-mul_right}
use Rattle.model.proofs.First.{below_or}
use Rattle.movement.proofs.Integers.{size_mul}
use Rattle.model.proofs.Numbers.{minus_is, minus-below}

mag_size : (z : ℤ) → mag z ≤ nat_abs z
mag_size (pos n) = omega arith
mag_size (negsuc n) = omega arith

pub fits-size : (w : Width) (z : ℤ) → nat_abs z < 2 ^ hbits w → SFits w z
fits-size w z h = record { sfits = omega (arith, mag_size z) }

pub size_product : (a b : ℤ) {m n : ℕ} → nat_abs a ≤ m → nat_abs b ≤ n → nat_abs (a *ℤ b) ≤ m * n
size_product a b {m} {n} h l = rw (size_mul a b) (le_trans (mul-le-mul_right (nat_abs b) h) (mul-le-mul_left m l))

pub size-difference : (a b : ℕ) {n : ℕ} → a ≤ n → b ≤ n → nat_abs (pos a -ℤ pos b) ≤ n
size-difference a b {n} h l =
    ⊎_elim (λ (q : a < b). rw (minus-below a b q) (omega arith)) (λ (q : b ≤ a). rw (minus_is a b q) (omega arith)) (below_or a b)
