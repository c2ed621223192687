-- The largest number of 4 bytes is the one that is not finite.
use Prim.Native.Nat.{ℕ}
use mathlib.Core.Path.{◌≡◌, refl}
use mathlib.Core.Bool.{Bool, true, false, not, cond}
use lib.Dec.{eqb}
use Rattle.model.specs.Numbers.{∞, fin}
use Rattle.second_form.specs.Complement.{finite}
use Rattle.fields.specs.Numbers.{bound, unbounded}

pub finite_is : (x : ℕ) → not (eqb x unbounded) ≡ finite (bound x)
unfolding bound
finite_is x = go (eqb x unbounded)
  where
    go : (b : Bool) → not b ≡ finite (cond b ∞ (fin x))
    go true = refl
    go false = refl
