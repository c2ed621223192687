-- A number of 4 bytes whose first bit is set stands for itself less 2^32.
use Prim.Native.Nat.{ℕ, ◌≤◌}
use mathlib.Core.Path.{◌≡◌}
use lib.IntN.{pos, ◌-ℤ◌}
use mir.Syntax.{w32, w64}
use mir.Val.{to_z, Fits, SFits}
use mir.Facts.{sfits_to_z, sfits_widen}
use native.Mathlib.Omega.{arith}
use borrow.Author.Tests.{lt-ltb, le-ltb}
use Rattle.sheets.specs.lists.Weights.{signed}

module _ (x : ℕ) (set : 2147483648 ≤ x) (fits : Fits w32 x) where
  pub less : to_z w64 x -ℤ pos 4294967296 ≡ signed x
  unfolding signed
  less = simp (lt-ltb x 9223372036854775808 (omega arith), lt-ltb x 4294967296 (omega arith), le-ltb x 2147483648 set)

  pub less_fits32 : SFits w32 (to_z w64 x -ℤ pos 4294967296)
  unfolding signed
  less_fits32 = rw less (sfits_to_z fits)

  pub less_fits64 : SFits w64 (to_z w64 x -ℤ pos 4294967296)
  less_fits64 = sfits_widen tt less_fits32
