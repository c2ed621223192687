-- The bounded pairs: the pair p of finite K is the one that as many bounded pairs as stand below p come before.
use Prim.Native.Nat.{ℕ, zero, suc, ◌+◌, ◌-◌, ◌≤◌, ◌<◌}
use mathlib.Core.Path.{◌≡◌, refl, sym, ◌∙◌, ap}
use mathlib.Core.Bool.{Bool, true, false, cond}
use mathlib.Core.List.{[]}
use mathlib.Core.Logic.{◌⊎◌, inl, inr, ⊎_elim}
use lib.ListN.{length, get_or, length-append, get_or-append}
use lib.Seq.{get_or-append_seam}
use native.Mathlib.Omega.{arith}
use native.Mathlib.Nat.{eq-or-lt_of_le, le_of_suc-le-suc, not-suc-le-zero, add-zero, add-suc}
use Rattle.model.specs.Numbers.{ℕ∞, fin, ∞}
use Rattle.model.specs.Rows.{Capacities}
use Rattle.second_form.specs.Complement.{finite, bounded, bounded_below, complement_pair}
use Rattle.model.specs.Lists.{joined, list_if}
use Rattle.model.proofs.First.{below_or}

-- p is the bounded pair below n that j others stand below
pub record BoundedPair (K : Capacities) (n j p : ℕ) : Type 0 where
  pub below : p < n
  pub capacity : ℕ
  pub is_bounded : K p ≡ fin capacity
  pub number : bounded_below K p ≡ j

pub below_none : (K : Capacities) → bounded_below K 0 ≡ 0
unfolding bounded joined
below_none K = refl

pub below_next : (K : Capacities) (n : ℕ) → bounded_below K (suc n) ≡ bounded_below K n + cond (finite (K n)) 1 0
unfolding bounded joined
below_next K n = length-append (bounded K n) (list_if (finite (K n)) n) ∙ ap (λ c. bounded_below K n + c) (one (finite (K n)))
  where
    one : (b : Bool) → length (list_if b n) ≡ cond b 1 0
    one true = refl
    one false = refl

pub below-at-most : (K : Capacities) (n : ℕ) → bounded_below K n ≤ n
below-at-most K zero = omega (arith, below_none K)
below-at-most K (suc n) = omega (arith, below_next K n, below-at-most K n, one (finite (K n)))
  where
    one : (b : Bool) → cond b 1 0 ≤ 1
    one true = omega arith
    one false = omega arith

pub below_split : (K : Capacities) (m c : ℕ) → bounded_below K (m + c) ≡ bounded_below K m + bounded_below (λ p. K (m + p)) c
unfolding bounded joined
below_split K m zero = rw (add-zero m) (omega arith)
below_split K m (suc c) = rw add-suc (below_next K (m + c) ∙ omega (arith, below_split K m c, below_next (λ p. K (m + p)) c))

module _ (K : Capacities) where
  pub below-rises : (m n : ℕ) → m ≤ n → bounded_below K m ≤ bounded_below K n
  below-rises m n h = let e : n ≡ m + (n - m) = omega arith in rw e (omega (arith, below_split K m (n - m)))

  below-counts : (p : ℕ) {b : ℕ∞} → K p ≡ b → bounded_below K (suc p) ≡ bounded_below K p + cond (finite b) 1 0
  below-counts p e = rw e at (below_next K p)

  pub bounded-number : (n p k : ℕ) → p < n → K p ≡ fin k → bounded_below K p < bounded_below K n
  bounded-number n p k h e = omega (arith, below-counts p e, below-rises (suc p) n h)

  -- a bounded pair stands where its number among the bounded pairs says
  pub bounded_at : (n p k : ℕ) → p < n → K p ≡ fin k → get_or (bounded K n) (bounded_below K p) 0 ≡ p
  unfolding bounded joined
  bounded_at zero p k h e = absurd (not-suc-le-zero h)
  bounded_at (suc n) p k h e =
      ⊎_elim (λ (q : p ≡ n). rw (q, rw q at e) (get_or-append_seam (bounded K n) n [] 0))
      (λ (l : p < n).
      get_or-append (bounded K n) (list_if (finite (K n)) n) 0 (bounded_below K p) (bounded-number n p k l e) ∙ bounded_at n p k l e)
      (eq-or-lt_of_le (le_of_suc-le-suc h))

  found : (n j : ℕ) → j < bounded_below K n → (p : ℕ) × BoundedPair K n j p
  found zero j h = absurd (omega (arith, below_none K))
  found (suc n) j h = go (K n) refl (found n j)
    where
      Found : ℕ → Type 0
      Found m = (p : ℕ) × BoundedPair K m j p

      more : Found n → Found (suc n)
      more r =
          (r.0, record { below = omega (arith, r.1.below); capacity = r.1.capacity; is_bounded = r.1.is_bounded; number = r.1.number })

      go : (b : ℕ∞) → K n ≡ b → (j < bounded_below K n → Found n) → Found (suc n)
      go (fin k) e ih =
          ⊎_elim (λ (q : j ≡ bounded_below K n). (n, record { below = omega arith; capacity = k; is_bounded = e; number = sym q }))
          (λ (l : j < bounded_below K n). more (ih l))
          (eq-or-lt_of_le (omega (arith, below-counts n e)))
      go ∞ e ih = more (ih (omega (arith, below-counts n e)))

  pub bounded-pair : (n j : ℕ) → j < bounded_below K n → BoundedPair K n j (get_or (bounded K n) j 0)
  bounded-pair n j h =
      let r = found n j h in
      let e : get_or (bounded K n) j 0 ≡ r.0 = rw r.1.number at (bounded_at n r.0 r.1.capacity r.1.below r.1.is_bounded) in
      rw e r.1

  -- the j-th complement pair is the complement of the j-th bounded pair
  pub at-complements : {A : Type 0} (n : ℕ) (f g : ℕ → A) → ((p k : ℕ) → p < n → K p ≡ fin k → f (complement_pair n K p) ≡ g p)
      → (j : ℕ) → j < bounded_below K n → f (n + j) ≡ g (get_or (bounded K n) j 0)
  at-complements n f g each j h =
      let r = bounded-pair n j h in
      let e : n + j ≡ complement_pair n K (get_or (bounded K n) j 0) = omega (arith, r.number) in
      ap f e ∙ each (get_or (bounded K n) j 0) r.capacity r.below r.is_bounded

  pub bounded-rises : (n i j : ℕ) → i < j → j < bounded_below K n → get_or (bounded K n) i 0 < get_or (bounded K n) j 0
  bounded-rises n i j h l =
      ⊎_elim (λ (b : get_or (bounded K n) i 0 < get_or (bounded K n) j 0). b)
      (λ (b : get_or (bounded K n) j 0 ≤ get_or (bounded K n) i 0).
      absurd (omega (arith, below-rises _ _ b, (bounded-pair n i (omega arith)).number, (bounded-pair n j l).number)))
      (below_or (get_or (bounded K n) i 0) (get_or (bounded K n) j 0))

  -- a pair that is not among the bounded ones is unbounded
  pub unbounded : (n p : ℕ) → p < n → ((j : ℕ) → j < bounded_below K n → ¬ (get_or (bounded K n) j 0 ≡ p)) → K p ≡ ∞
  unbounded n p h out = go (K p) refl
    where
      go : (k : ℕ∞) → K p ≡ k → K p ≡ ∞
      go (fin k) e = absurd (out (bounded_below K p) (bounded-number n p k h e) (bounded_at n p k h e))
      go ∞ e = e

  -- a pair of the complement is an original, or the complement of a bounded pair
  pub original_or : (n p : ℕ) → p < n + bounded_below K n → (p < n) ⊎ ((q k : ℕ) × (q < n) × (K q ≡ fin k) × (complement_pair n K q ≡ p))
  original_or n p h =
      ⊎_elim (λ (l : p < n). inl l)
      (λ (l : n ≤ p).
      let r = bounded-pair n (p - n) (omega arith) in
      inr (get_or (bounded K n) (p - n) 0, r.capacity, r.below, r.is_bounded, omega (arith, r.number)))
      (below_or p n)
