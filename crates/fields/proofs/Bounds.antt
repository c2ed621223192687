-- A number of a sheet as a bound.
use Prim.Native.Nat.{ℕ}
use mathlib.Core.Path.{◌≡◌, refl}
use mathlib.Core.Bool.{Bool, true, false}
use lib.Dec.{eqb}
use borrow.Author.Tests.{eq-eqb, ne_eqb, eqb-true, eqb-false}
use Rattle.model.specs.Numbers.{ℕ∞, fin, ∞}
use Rattle.fields.specs.Numbers.{unbounded, bound}

pub bound-unbounded : (x : ℕ) → x ≡ unbounded → bound x ≡ ∞
unfolding bound
bound-unbounded x e = simp (eq-eqb x unbounded e)

pub bound-finite : (x : ℕ) → (x ≡ unbounded → ⊥) → bound x ≡ fin x
unfolding bound
bound-finite x e = simp (ne_eqb x unbounded e)

pub by-bound : (P : ℕ∞ → Type 0) (x : ℕ) → (x ≡ unbounded → P ∞) → P (fin x) → P (bound x)
by-bound P x infinite finite = go (eqb x unbounded) refl
  where
    go : (b : Bool) → eqb x unbounded ≡ b → P (bound x)
    go true e = let q = eqb-true x unbounded e in rw (bound-unbounded x q) (infinite q)
    go false e = rw (bound-finite x (eqb-false x unbounded e)) finite
