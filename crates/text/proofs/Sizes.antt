-- The sign and the size of a signed number, as the machine reads them back from its bits, and how many bytes it has at most.
use Prim.Native.Nat.{ℕ, ◌≤◌}
use mathlib.Core.Path.{◌≡◌, refl, sym, ◌∙◌, ap}
use mathlib.Core.Bool.{true, false, cond}
use mathlib.Core.List.{◌∷◌}
use lib.IntN.{ℤ, pos, negsuc, nat_abs}
use lib.ListN.{length}
use lib.Signed.{lt_z, nat_abs-le}
use native.Mathlib.Omega.{arith}
use borrow.Author.Tests.{le-ltb}
use mir.Syntax.{w64}
use mir.Val.{SFits, to_z, of_z}
use mir.Facts.{to_z-of_z}
use Rattle.text.specs.Decimals.{minus, decimal, signed_decimal}
use Rattle.text.proofs.Decimals.{signed-length}

signed : (z : ℤ) → signed_decimal z ≡ cond (lt_z z (pos 0)) (minus ∷ decimal (nat_abs z)) (decimal (nat_abs z))
unfolding signed_decimal
signed (pos n) = rw (le-ltb n 0 (omega arith))
signed (negsuc n) = refl

abbrev read_back : ℤ → ℤ
read_back z = to_z w64 (of_z w64 z)

module _ {z : ℤ} (fits : SFits w64 z) where
  signed-read :
      signed_decimal z ≡ cond (lt_z (read_back z) (pos 0)) (minus ∷ decimal (nat_abs (read_back z))) (decimal (nat_abs (read_back z)))
  signed-read = ap signed_decimal (sym (to_z-of_z fits)) ∙ signed (read_back z)

  -- by the sign that was tested and the size that was found
  pub signed_below : {n : ℕ} → lt_z (read_back z) (pos 0) ≡ true → n ≡ nat_abs (read_back z) → signed_decimal z ≡ minus ∷ decimal n
  signed_below below e = signed-read ∙ rw (below, e)

  pub signed_not_below : {n : ℕ} → lt_z (read_back z) (pos 0) ≡ false → n ≡ nat_abs (read_back z) → signed_decimal z ≡ decimal n
  signed_not_below above e = signed-read ∙ rw (above, e)

pub signed-size : {z : ℤ} → SFits w64 z → length (signed_decimal z) ≤ 20
signed-size {z} fits = signed-length z 18 (omega (arith, nat_abs-le z fits.sfits))
