-- Which numbers of a sheet are bounds, and which one is none.
use Prim.Native.Nat.{ℕ, ◌≤◌, min}
use mathlib.Core.Path.{◌≡◌, refl, sym, ◌∙◌, ap}
use mathlib.Core.Bool.{Bool, true, false}
use mathlib.Core.Logic.{◌⊎◌, inl, inr, ⊎_elim}
use lib.Dec.{eqb}
use native.Mathlib.Omega.{arith}
use borrow.Author.Tests.{eqb-true, eqb-false}
use Rattle.model.specs.Numbers.{fin, ∞, least_of}
use Rattle.second_form.specs.Complement.{finite}
use Rattle.fields.specs.Numbers.{unbounded, bound}
use Rattle.fields.proofs.Bounds.{bound-unbounded, bound-finite, by-bound}

unbounded_or_not : (x : ℕ) → (x ≡ unbounded) ⊎ (bound x ≡ fin x)
unbounded_or_not x = by-bound (λ b. (x ≡ unbounded) ⊎ (b ≡ fin x)) x inl (inr refl)

pub unbounded-only : (x : ℕ) → bound x ≡ ∞ → x ≡ unbounded
unbounded-only x e =
    ⊎_elim (λ (q : x ≡ unbounded). q) (λ (q : bound x ≡ fin x). let z : ◌≡◌ {A = ℕ} 0 1 = cc in absurd (omega arith)) (unbounded_or_not x)

-- what the test says
pub finite-is : (x : ℕ) → finite (bound x) ≡ true → bound x ≡ fin x
finite-is x e =
    ⊎_elim
    (λ (q : x ≡ unbounded).
    let z : true ≡ false = sym e ∙ ap finite (bound-unbounded x q) in let y : ◌≡◌ {A = ℕ} 0 1 = cc in absurd (omega arith))
    (λ (q : bound x ≡ fin x). q) (unbounded_or_not x)

pub unbounded-is : (x : ℕ) → finite (bound x) ≡ false → bound x ≡ ∞
unbounded-is x e =
    ⊎_elim (λ (q : x ≡ unbounded). bound-unbounded x q)
    (λ (q : bound x ≡ fin x). let z : true ≡ false = sym (ap finite q) ∙ e in let y : ◌≡◌ {A = ℕ} 0 1 = cc in absurd (omega arith))
    (unbounded_or_not x)

-- the lesser of two numbers is the lesser of two bounds: the one that means unbounded is the largest
pub least_bounds : (a b : ℕ) → a ≤ unbounded → b ≤ unbounded → bound (min a b) ≡ least_of (bound a) (bound b)
least_bounds a b h l = go (eqb a unbounded) (eqb b unbounded) refl refl
  where
    go : (x y : Bool) → eqb a unbounded ≡ x → eqb b unbounded ≡ y → bound (min a b) ≡ least_of (bound a) (bound b)
    go x true d e =
        let q = eqb-true b unbounded e in
        let s : min a b ≡ a = omega arith in
        rw (s, bound-unbounded b q)
    go true false d e =
        let q = eqb-true a unbounded d in
        let s : min a b ≡ b = omega arith in
        rw (s, bound-unbounded a q, bound-finite b (eqb-false b unbounded e))
    go false false d e =
        let f = eqb-false a unbounded d in
        let g = eqb-false b unbounded e in
        rw (bound-finite (min a b) (λ s. omega arith), bound-finite a f, bound-finite b g)
