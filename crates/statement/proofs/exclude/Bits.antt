-- The machine compares two signed numbers by their bits.
use Prim.Native.Nat.{◌^◌, ◌<◌}
use mathlib.Core.Path.{◌≡◌, refl, sym, ◌∙◌, ap}
use mathlib.Core.Bool.{Bool, true, false}
use lib.IntN.{ℤ}
use lib.Signed.{mag}
use mir.Syntax.{w64}
use mir.Val.{hbits, to_z, of_z}
use mir.Facts.{to_z-of_z}
use Rattle.movement.specs.Exclusion.{equal}
use Rattle.movement.proofs.Exclusion.{by-same}

-- two numbers that calls have given, and what their contracts say that they are
module _ {a b x y : ℤ} (fits : mag a < 2 ^ hbits w64) (fits' : mag b < 2 ^ hbits w64) (e : a ≡ x) (e' : b ≡ y) where
  pub bits_equal : of_z w64 a ≡ of_z w64 b → equal x y ≡ true
  bits_equal q =
      (by-same x y).complete
      (sym e ∙ sym (to_z-of_z {w = w64} (record { sfits = fits })) ∙ ap (to_z w64) q ∙ to_z-of_z {w = w64} (record { sfits = fits' }) ∙ e')

  pub bits_differ : (of_z w64 a ≡ of_z w64 b → ⊥) → equal x y ≡ false
  bits_differ differ = go (equal x y) refl
    where
      go : (t : Bool) → equal x y ≡ t → equal x y ≡ false
      go true q = absurd (differ (ap (of_z w64) (e ∙ (by-same x y).sound q ∙ sym e')))
      go false q = q
