-- How many digits a number has at most, as the writers of digits ask for it.
use Prim.Native.Nat.{ℕ, ◌≤◌, ◌<◌}
use native.Mathlib.Omega.{arith}
use Rattle.model.specs.Numbers.{limit}

-- a pair or a mode has at most three digits
pub three-digits : {n : ℕ} → n < 256 → n < 1000
three-digits h = omega arith

-- a count has at most eight
pub eight_digits : {n : ℕ} → n ≤ limit → n < 100000000
eight_digits h = omega arith
