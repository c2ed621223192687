-- The laws of lists that are joined from parts 0 up to n - 1.
use Prim.Native.Nat.{ℕ, zero, suc, ◌+◌, ◌≤◌, ◌<◌}
use mathlib.Core.Path.{◌≡◌, refl, sym, ◌∙◌, ap}
use mathlib.Core.List.{List, [], ◌++◌, append_assoc, append-nil}
use native.Mathlib.Omega.{arith}
use native.Mathlib.Nat.{eq-or-lt_of_le, le_of_suc-le-suc, not-suc-le-zero, add-zero, add-suc}
use mathlib.Core.Logic.{◌⊎◌, ⊎_elim}
use Rattle.model.specs.Lists.{joined}

module _ {A : Type 0} where
  pub joined_ext : (n : ℕ) (f g : ℕ → List A) → ((i : ℕ) → i < n → f i ≡ g i) → joined n f ≡ joined n g
  unfolding joined
  joined_ext zero f g h = refl
  joined_ext (suc n) f g h = rw (joined_ext n f g (λ i l. h i (omega arith)), h n (omega arith))

  pub joined-split : (n c : ℕ) (f : ℕ → List A) → joined (n + c) f ≡ joined n f ++ joined c (λ i. f (n + i))
  unfolding joined
  joined-split n zero f = rw (add-zero, append-nil)
  joined-split n (suc c) f = rw (add-suc, joined-split n c f, append_assoc)

  pub joined-front : (n : ℕ) (f : ℕ → List A) → joined (suc n) f ≡ f 0 ++ joined n (λ i. f (suc i))
  unfolding joined
  joined-front zero f = sym (append-nil (f 0))
  joined-front (suc n) f = rw (joined-front n f, append_assoc)

  joined-none : (n : ℕ) (f : ℕ → List A) → ((i : ℕ) → i < n → f i ≡ []) → joined n f ≡ []
  unfolding joined
  joined-none zero f h = refl
  joined-none (suc n) f h = rw (joined-none n f (λ i l. h i (omega arith)), h n (omega arith))

  -- of n parts only those that a rising `at` names are not empty
  pub joined_sparse : (n c : ℕ) (f : ℕ → List A) (at : ℕ → ℕ) → ((k : ℕ) → k < c → at k < n) → ((j k : ℕ) → j < k → k < c → at j < at k)
      → ((p : ℕ) → p < n → ((k : ℕ) → k < c → ¬ (at k ≡ p)) → f p ≡ []) → joined n f ≡ joined c (λ k. f (at k))
  unfolding joined
  joined_sparse zero zero f at inside rising elsewhere = refl
  joined_sparse zero (suc c) f at inside rising elsewhere = absurd (not-suc-le-zero (inside c (omega arith)))
  joined_sparse (suc n) zero f at inside rising elsewhere = joined-none (suc n) f (λ i h. elsewhere i h (λ k l. absurd (not-suc-le-zero l)))
  joined_sparse (suc n) (suc c) f at inside rising elsewhere =
      ⊎_elim
      (λ (q : at c ≡ n).
      rw q
      (ap (λ xs. xs ++ f n)
      (joined_sparse n c f at (λ k h. omega (arith, rising k c h (omega arith))) (λ j k l h. rising j k l (omega arith))
      (λ p h out. elsewhere p (omega arith) (λ k l e. ⊎_elim (λ (d : k ≡ c). omega (arith, ap at d)) (λ (b : k < c). out k b e) (last_or k l))))))
      (λ (l : at c < n).
      ap (λ xs. joined n f ++ xs) (elsewhere n (omega arith) (λ k h e. omega (arith, most k h)))
      ∙ append-nil (joined n f)
      ∙ joined_sparse n (suc c) f at (λ k h. omega (arith, most k h)) rising (λ p h out. elsewhere p (omega arith) out))
      (eq-or-lt_of_le (le_of_suc-le-suc (inside c (omega arith))))
    where
      last_or : (k : ℕ) → k < suc c → (k ≡ c) ⊎ (k < c)
      last_or k h = eq-or-lt_of_le (le_of_suc-le-suc h)

      most : (k : ℕ) → k < suc c → at k ≤ at c
      most k h = ⊎_elim (λ (d : k ≡ c). omega (arith, ap at d)) (λ (b : k < c). omega (arith, rising k c b (omega arith))) (last_or k h)
