-- A test at every number below n, one after the other.
use Prim.Native.Nat.{ℕ, zero, suc, ◌+◌, ◌<◌}
use mathlib.Core.Path.{◌≡◌, refl, ◌∙◌, ap, ap₂}
use mathlib.Core.Bool.{Bool, true, false, ◌&&◌}
use mathlib.Core.Logic.{⊎_elim}
use native.Mathlib.Omega.{arith}
use native.Mathlib.Numerals.{add-one}
use native.Mathlib.Nat.{eq-or-lt_of_le}
use Rattle.complement.specs.sections.Arcs.{every}

pub and_left : (a b : Bool) → a && b ≡ true → a ≡ true
and_left true b e = refl
and_left false b e = e

pub and_right : (a b : Bool) → a && b ≡ true → b ≡ true
and_right true b e = e
and_right false b e = let z : ◌≡◌ {A = ℕ} 0 1 = cc in absurd (omega arith)

and_assoc : (a b c : Bool) → (a && b) && c ≡ a && (b && c)
and_assoc true b c = refl
and_assoc false b c = refl

and_true : (a : Bool) → a ≡ a && true
and_true true = refl
and_true false = refl

module _ (test : ℕ → Bool) where
  pub every-none : true ≡ every 0 test
  unfolding every
  every-none = refl

  pub every_more : (i : ℕ) {a b c : Bool} → a ≡ every i test → b ≡ test i → c ≡ a && b → c ≡ every (i + 1) test
  unfolding every
  every_more i e f g = rw add-one (g ∙ ap₂ ◌&&◌ e f)

  pub every-split : (n c : ℕ) → every (n + c) test ≡ every n test && every c (λ i. test (n + i))
  unfolding every
  every-split n zero = let e : n + zero ≡ n = omega arith in rw e (and_true (every n test))
  every-split n (suc c) =
      let e : n + suc c ≡ suc (n + c) = omega arith in
      rw e (ap (λ b. b && test (n + c)) (every-split n c) ∙ and_assoc (every n test) (every c (λ i. test (n + i))) (test (n + c)))

  pub every-each : (n : ℕ) → every n test ≡ true → (i : ℕ) → i < n → test i ≡ true
  unfolding every
  every-each zero e i h = absurd (omega arith)
  every-each (suc n) e i h =
      ⊎_elim (λ (q : i ≡ n). rw q (and_right (every n test) (test n) e)) (λ (l : i < n). every-each n (and_left (every n test) (test n) e) i l) (eq-or-lt_of_le (omega arith))
