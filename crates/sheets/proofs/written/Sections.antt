-- Sections of a sheet: the bytes of each record, one after the other; where all have one size, where each stands.
use Prim.Native.Nat.{ℕ, zero, suc, ◌+◌, ◌*◌, ◌≤◌, ◌<◌}
use mathlib.Core.Path.{◌≡◌, refl, sym, ◌∙◌, ap}
use mathlib.Core.List.{List, [], ◌∷◌, ◌++◌, append_assoc, append-nil, flat_map}
use mathlib.Core.Logic.{⊎_elim}
use lib.ListN.{length, get_or, length-append}
use lib.Seq.{ext_get_or}
use native.Mathlib.Omega.{arith}
use native.Mathlib.Nat.{mul-suc, mul-zero, eq-or-lt_of_le, le_of_suc-le-suc}
use Rattle.model.specs.Lists.{table, joined}
use Rattle.model.proofs.Tables.{table-length, table_at}
use Rattle.movement.proofs.Joined.{joined-front}
use Rattle.sheets.proofs.written.Stands.{Stands, stands-both, stands-left, stands-right}

-- a table is the list that has its values
pub table_is : {A : Type 0} (d : A) (xs : List A) (n : ℕ) (f : ℕ → A) → n ≡ length xs → ((i : ℕ) → i < length xs → f i ≡ get_or xs i d) → table n f ≡ xs
table_is d xs n f e h =
    ext_get_or d (table n f) xs (table-length n f ∙ e)
    (λ i l. let i<n : i < n = omega (arith, table-length n f) in table_at n f d i i<n ∙ h i (omega arith))

-- a list told by its numbers
pub by-numbers : {A : Type 0} (d : A) (xs : List A) → xs ≡ joined (length xs) (λ i. get_or xs i d ∷ [])
unfolding joined
by-numbers d [] = refl
by-numbers d (x ∷ xs) = ap (λ r. x ∷ r) (by-numbers d xs) ∙ sym (joined-front (length xs) (λ i. get_or (x ∷ xs) i d ∷ []))

module _ {A B : Type 0} (f : A → List B) where
  pub section_append : (xs ys : List A) → flat_map f (xs ++ ys) ≡ flat_map f xs ++ flat_map f ys
  unfolding flat_map
  section_append [] ys = refl
  section_append (x ∷ xs) ys = rw (section_append xs ys, append_assoc)

  pub section_one : (a : A) → flat_map f (a ∷ []) ≡ f a
  unfolding flat_map
  section_one a = append-nil (f a)

  -- of a list that is joined from parts, of a table, and of a list by its numbers
  pub section_joined : (n : ℕ) (g : ℕ → List A) → flat_map f (joined n g) ≡ joined n (λ i. flat_map f (g i))
  unfolding flat_map joined
  section_joined zero g = refl
  section_joined (suc n) g = section_append (joined n g) (g n) ∙ ap (λ r. r ++ flat_map f (g n)) (section_joined n g)

  pub section_table : (n : ℕ) (g : ℕ → A) → flat_map f (table n g) ≡ joined n (λ i. f (g i))
  unfolding flat_map table joined
  section_table zero g = refl
  section_table (suc n) g = section_append (table n g) (g n ∷ []) ∙ rw (section_table n g, section_one)

  pub section_list : (d : A) (xs : List A) → flat_map f xs ≡ joined (length xs) (λ i. f (get_or xs i d))
  section_list d xs =
      ap (flat_map f) (sym (table_is d xs (length xs) (λ i. get_or xs i d) refl (λ i l. refl))) ∙ section_table (length xs) (λ i. get_or xs i d)

-- where there is room for n parts, there is room for each after those before it
pub joined-room : {B : Type 0} (f : ℕ → List B) (n i : ℕ) → i < n → length (joined i f) + length (f i) ≤ length (joined n f)
unfolding joined
joined-room f zero i h = absurd (omega arith)
joined-room f (suc n) i h =
    ⊎_elim (λ (q : i ≡ n). rw (q, length-append) (omega arith)) (λ (q : i < n). omega (arith, length-append (joined n f) (f n), joined-room f n i q))
    (eq-or-lt_of_le (le_of_suc-le-suc h))

pub joined_length : {B : Type 0} (size : ℕ) (f : ℕ → List B) → ((i : ℕ) → length (f i) ≡ size) → (n : ℕ) → length (joined n f) ≡ size * n
unfolding joined
joined_length size f sized zero = sym (mul-zero size)
joined_length size f sized (suc n) = rw (mul-suc, length-append) (omega (arith, sized n, joined_length size f sized n))

module _ (size : ℕ) (f : ℕ → List ℕ) (sized : (i : ℕ) → length (f i) ≡ size) where
  module _ {s : List ℕ} {at : ℕ} where
    pub joined-each : (n : ℕ) → Stands s at (joined n f) → (i k : ℕ) → i < n → k ≡ at + size * i → Stands s k (f i)
    unfolding joined
    joined-each zero h i k l e = absurd (omega arith)
    joined-each (suc n) h i k l e =
        ⊎_elim (λ (q : i ≡ n). rw q (stands-right (joined n f) (f n) h k (rw (joined_length size f sized n, ← q) e)))
        (λ (q : i < n). joined-each n (stands-left (joined n f) (f n) h) i k q e)
        (eq-or-lt_of_le (le_of_suc-le-suc l))

    pub joined_stand : (n : ℕ) → ((i k : ℕ) → i < n → k ≡ at + size * i → Stands s k (f i)) → Stands s at (joined n f)
    unfolding joined
    joined_stand zero h = record { each = λ j k l e. absurd (omega arith) }
    joined_stand (suc n) h =
        stands-both (joined_stand n (λ i k l e. h i k (omega arith) e)) (h n (at + size * n) (omega arith) refl) (omega (arith, joined_length size f sized n))

module _ {A : Type 0} (size : ℕ) (f : A → List ℕ) (sized : (a : A) → length (f a) ≡ size) where
  pub section_length : (d : A) (xs : List A) → length (flat_map f xs) ≡ size * length xs
  section_length d xs = ap length (section_list f d xs) ∙ joined_length size (λ i. f (get_or xs i d)) (λ i. sized _) (length xs)

  module _ {s : List ℕ} {at : ℕ} where
    pub section_each : (d : A) (xs : List A) → Stands s at (flat_map f xs) → (i k : ℕ) → i < length xs → k ≡ at + size * i → Stands s k (f (get_or xs i d))
    section_each d xs h = joined-each size (λ i. f (get_or xs i d)) (λ i. sized _) (length xs) (rw (section_list f d xs) at h)

    pub section_stands : (n : ℕ) (g : ℕ → A) → ((i k : ℕ) → i < n → k ≡ at + size * i → Stands s k (f (g i))) → Stands s at (flat_map f (table n g))
    section_stands n g h = rw (section_table f n g) (joined_stand size (λ i. f (g i)) (λ i. sized _) n h)
