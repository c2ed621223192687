-- What holds of each element of a list, and arcs that rise throughout.
use Prim.Native.Nat.{ℕ, zero, suc, ◌<◌}
use mathlib.Core.List.{List, [], ◌∷◌, ◌++◌}
use lib.ListN.{length, get_or}
use native.Mathlib.Omega.{arith}
use native.Mathlib.Nat.{le_of_suc-le-suc, not-suc-le-zero, suc-add}
use Rattle.model.specs.Nets.{NetArc}
use Rattle.model.specs.WellFormed.{Rises}
use Rattle.model.specs.Lists.{joined}
use Rattle.movement.proofs.Nets.{Rising}

module _ {A : Type 0} (P : A → Type 0) where
  abbrev pub Each : List A → Type 0
  Each [] = Unit {0}
  Each (x ∷ xs) = P x × Each xs

  pub each_append : (xs ys : List A) → Each xs → Each ys → Each (xs ++ ys)
  each_append [] ys h l = l
  each_append (x ∷ xs) ys h l = (h.0, each_append xs ys h.1 l)

  pub each-joined : (n : ℕ) (f : ℕ → List A) → ((i : ℕ) → i < n → Each (f i)) → Each (joined n f)
  unfolding joined
  each-joined zero f h = tt
  each-joined (suc n) f h = each_append (joined n f) (f n) (each-joined n f (λ i l. h i (omega arith))) (h n (omega arith))

  pub each_at : (d : A) (xs : List A) → Each xs → (k : ℕ) → k < length xs → P (get_or xs k d)
  each_at d [] h k l = absurd (not-suc-le-zero l)
  each_at d (x ∷ xs) h zero l = h.0
  each_at d (x ∷ xs) h (suc k) l = each_at d xs h.1 k (le_of_suc-le-suc l)

  pub at_each : (d : A) (xs : List A) → ((k : ℕ) → k < length xs → P (get_or xs k d)) → Each xs
  at_each d [] h = tt
  at_each d (x ∷ xs) h = (h 0 (omega arith), at_each d xs (λ k l. h (suc k) (omega arith)))

-- each arc of xs is below each of ys
abbrev pub Below : List NetArc → List NetArc → Type 0
Below xs ys = Each (λ a. Each (Rises a) ys) xs

abbrev pub Sorted : List NetArc → Type 0
Sorted [] = Unit {0}
Sorted (a ∷ xs) = Each (Rises a) xs × Sorted xs

sorted-append : (xs ys : List NetArc) → Sorted xs → Sorted ys → Below xs ys → Sorted (xs ++ ys)
sorted-append [] ys h l b = l
sorted-append (a ∷ xs) ys h l b = (each_append (Rises a) xs ys h.0 b.0, sorted-append xs ys h.1 l b.1)

pub sorted-joined : (n : ℕ) (f : ℕ → List NetArc) → ((i : ℕ) → i < n → Sorted (f i))
    → ((i j : ℕ) → i < j → j < n → Below (f i) (f j)) → Sorted (joined n f)
unfolding joined
sorted-joined zero f h b = tt
sorted-joined (suc n) f h b =
    sorted-append (joined n f) (f n) (sorted-joined n f (λ i l. h i (omega arith)) (λ i j l g. b i j l (omega arith))) (h n (omega arith))
    (each-joined (λ a. Each (Rises a) (f n)) n f (λ i l. b i n l (omega arith)))

pub sorted-rising : (xs : List NetArc) → Sorted xs → Rising xs
sorted-rising [] h k l = absurd (not-suc-le-zero l)
sorted-rising (a ∷ xs) h zero l = each_at (Rises a) _ xs h.0 0 (omega arith)
sorted-rising (a ∷ xs) h (suc k) l = rw (suc-add k 1) (sorted-rising xs h.1 k (omega arith))
