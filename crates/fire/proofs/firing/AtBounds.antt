-- What 32-bit numbers that stop at their ends say of bounds: 4,294,967,295, the greatest of them, means unbounded.
use Prim.Native.Nat.{ℕ, ◌+◌, ◌-◌, ◌≤◌, ◌*◌, min}
use mathlib.Core.Path.{◌≡◌, refl}
use mathlib.Core.Bool.{Bool, true, false}
use lib.Dec.{eqb}
use borrow.Author.Tests.{eqb-true, eqb-false}
use native.Mathlib.Omega.{arith}
use Rattle.model.specs.Numbers.{ℕ∞, ◌+∞◌, above_by}
use Rattle.fields.specs.Numbers.{unbounded, bound}
use Rattle.fields.proofs.Bounds.{bound-unbounded, bound-finite, by-bound}
use Rattle.rule.specs.AtPair.{Roomy}
use Rattle.rule.proofs.FourTests.{finite_in_range}

-- nothing is above an unbounded number
pub above-by-bound : (n x : ℕ) → n ≤ unbounded → n - x ≡ above_by n (bound x)
above-by-bound n x h = by-bound (λ b. n - x ≡ above_by n b) x (λ e. omega arith) refl

-- an unbounded K stays so; any other and Pre are below the number that means unbounded
pub bound-more : (k n : ℕ) → Roomy k n → bound (min (k + n) unbounded) ≡ bound k +∞ n
bound-more k n h = go (eqb k unbounded) refl
  where
    go : (t : Bool) → eqb k unbounded ≡ t → bound (min (k + n) unbounded) ≡ bound k +∞ n
    go true e =
        let q = eqb-true k unbounded e in
        rw (bound-unbounded k q) (bound-unbounded (min (k + n) unbounded) (omega arith))
    go false e =
        let q = eqb-false k unbounded e in
        let few = finite_in_range k h.capacity q in
        let sum : min (k + n) unbounded ≡ k + n = omega (arith, h.pre) in
        rw (bound-finite k q, sum) (bound-finite (k + n) (λ e. omega (arith, h.pre)))
