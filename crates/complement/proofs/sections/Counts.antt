-- How many parts a loop has counted.
use Prim.Native.Nat.{ℕ, ◌+◌}
use mathlib.Core.Path.{◌≡◌, refl}
use mathlib.Core.List.{List}
use lib.ListN.{length, length-append}
use native.Mathlib.Omega.{arith}
use native.Mathlib.Numerals.{add-one}
use Rattle.model.specs.Lists.{joined}

module _ {A : Type 0} (part : ℕ → List A) where
  pub count_none : 0 ≡ length (joined 0 part)
  unfolding joined
  count_none = refl

  pub count-more : (i : ℕ) {count one : ℕ} → count ≡ length (joined i part) → one ≡ length (part i) → count + one ≡ length (joined (i + 1) part)
  unfolding joined
  count-more i e f = rw (add-one, length-append) (omega arith)
