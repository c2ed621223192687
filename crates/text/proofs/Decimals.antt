-- The laws of decimals: induction by tens, their length, and what is promised of them.
use Prim.Native.Nat.{ℕ, zero, suc, ◌+◌, ◌-◌, ◌*◌, ◌/◌, ◌%◌, ◌^◌, max, ◌≤◌, ◌<◌}
use mathlib.Core.Path.{◌≡◌, refl, sym, ◌∙◌}
use mathlib.Core.Bool.{Bool, true, false}
use mathlib.Core.Logic.{⊎_elim}
use mathlib.Core.List.{List, [], ◌∷◌, ◌++◌}
use lib.Dec.{ltb}
use lib.IntN.{ℤ, pos, negsuc, nat_abs}
use lib.ListN.{length, get_or, length-append, get_or-append}
use lib.Seq.{get_or_at}
use native.Mathlib.Nat.{le_refl, le_of_suc-le-suc, eq-or-lt_of_le, pow-suc, one-le-pow}
use native.Mathlib.Omega.{arith}
use borrow.Author.Tests.{ltb-true, ltb-false, lt-ltb, le-ltb}
use Rattle.text.specs.Decimals.{digit, decimal_within, decimal, signed_decimal}
use Rattle.text.specs.Promises.{reads_after, Decimals}

-- what holds of the digits below ten, and of a decimal where it holds of its tenth's, holds of every decimal
module _ (P : ℕ → List ℕ → Type 0) (one : (n : ℕ) → n < 10 → P n (digit n ∷ []))
    (more : (n : ℕ) (ds : List ℕ) → 10 ≤ n → P (n / 10) ds → P n (ds ++ digit (n % 10) ∷ [])) where
  within : (steps n : ℕ) → n ≤ steps → P n (decimal_within steps n)
  unfolding decimal_within
  within zero n h = one n (omega arith)
  within (suc steps) n h = go (ltb n 10) refl (within steps (n / 10))
    where
      go : (b : Bool) → ltb n 10 ≡ b → (n / 10 ≤ steps → P (n / 10) (decimal_within steps (n / 10))) → P n (decimal_within (suc steps) n)
      go true e ih = rw (e, decimal_within) (one n (ltb-true n 10 e))
      go false e ih = let h' = ltb-false n 10 e in rw (e, decimal_within) (more n _ h' (ih (omega arith)))

  pub by-tens : (n : ℕ) → P n (decimal n)
  unfolding decimal
  by-tens n = within n n (le_refl n)

any_steps-one : (n : ℕ) → n < 10 → (t : ℕ) → n ≤ t → digit n ∷ [] ≡ decimal_within t n
unfolding decimal_within
any_steps-one n h zero l = refl
any_steps-one n h (suc t) l = rw (lt-ltb n 10 h, decimal_within)

any_steps-more : (n : ℕ) (ds : List ℕ) → 10 ≤ n → ((t : ℕ) → n / 10 ≤ t → ds ≡ decimal_within t (n / 10))
    → (t : ℕ) → n ≤ t → ds ++ digit (n % 10) ∷ [] ≡ decimal_within t n
unfolding decimal_within
any_steps-more n ds h ih zero l = absurd (omega arith)
any_steps-more n ds h ih (suc t) l = rw (le-ltb n 10 h, decimal_within, ← ih t (omega arith))

-- more divisions change nothing, so a decimal is its tenth's and the last digit
any_steps : (n t : ℕ) → n ≤ t → decimal n ≡ decimal_within t n
any_steps = by-tens (λ n ds. (t : ℕ) → n ≤ t → ds ≡ decimal_within t n) any_steps-one any_steps-more

pub below-ten : (n : ℕ) → n < 10 → decimal n ≡ digit n ∷ []
below-ten n h = any_steps n n (le_refl n) ∙ sym (any_steps-one n h n (le_refl n))

pub from_ten : (n : ℕ) → 10 ≤ n → decimal n ≡ decimal (n / 10) ++ digit (n % 10) ∷ []
from_ten n h = any_steps n n (le_refl n) ∙ sym (any_steps-more n (decimal (n / 10)) h (any_steps (n / 10)) n (le_refl n))

pub last-length : (ds : List ℕ) (d : ℕ) → length (ds ++ d ∷ []) ≡ suc (length ds)
last-length ds d = omega (arith, length-append ds (d ∷ []))

-- the length, by powers of ten
pub length-at-most : (n c : ℕ) → n < 10 ^ suc c → length (decimal n) ≤ suc c
length-at-most n = by-tens (λ n ds. (c : ℕ) → n < 10 ^ suc c → length ds ≤ suc c) (λ n h c l. omega arith) more n
  where
    more : (n : ℕ) (ds : List ℕ) → 10 ≤ n → ((c : ℕ) → n / 10 < 10 ^ suc c → length ds ≤ suc c)
        → (c : ℕ) → n < 10 ^ suc c → length (ds ++ digit (n % 10) ∷ []) ≤ suc c
    more n ds h ih zero l = absurd (omega arith)
    more n ds h ih (suc c) l = rw last-length (omega (arith, ih c (omega (arith, pow-suc 10 (suc c)))))

-- zero has as many digits as one
pub length_above : (n c : ℕ) → 10 ^ c ≤ max n 1 → c < length (decimal n)
length_above n = by-tens (λ n ds. (c : ℕ) → 10 ^ c ≤ max n 1 → c < length ds) one more n
  where
    one : (n : ℕ) → n < 10 → (c : ℕ) → 10 ^ c ≤ max n 1 → c < 1
    one n h zero l = omega arith
    one n h (suc c) l = absurd (omega (arith, pow-suc 10 c, one-le-pow c 10 (omega arith)))

    more : (n : ℕ) (ds : List ℕ) → 10 ≤ n → ((c : ℕ) → 10 ^ c ≤ max (n / 10) 1 → c < length ds)
        → (c : ℕ) → 10 ^ c ≤ max n 1 → c < length (ds ++ digit (n % 10) ∷ [])
    more n ds h ih zero l = rw last-length (omega arith)
    more n ds h ih (suc c) l = rw last-length (omega (arith, ih c (omega (arith, pow-suc 10 c))))

-- with a sign one byte more at most
pub signed-length : (z : ℤ) (c : ℕ) → nat_abs z < 10 ^ suc c → length (signed_decimal z) ≤ suc (suc c)
unfolding signed_decimal
signed-length (pos n) c l = omega (arith, length-at-most n c l)
signed-length (negsuc n) c l = omega (arith, length-at-most (suc n) c l)

reads-last : (before : ℕ) (ds : List ℕ) (d : ℕ) → reads_after before (ds ++ digit d ∷ []) ≡ reads_after before ds * 10 + d
unfolding reads_after
reads-last before [] d = omega arith
reads-last before (x ∷ ds) d = reads-last (before * 10 + (x - digit 0)) ds d

abbrev IsDigit : ℕ → Type 0
IsDigit b = (digit 0 ≤ b) × (b ≤ digit 9)

all_digits_lem : (n i : ℕ) → i < length (decimal n) → IsDigit (get_or (decimal n) i 0)
all_digits_lem = by-tens (λ n ds. (i : ℕ) → i < length ds → IsDigit (get_or ds i 0)) one more
  where
    one : (n : ℕ) → n < 10 → (i : ℕ) → i < 1 → IsDigit (get_or (digit n ∷ []) i 0)
    one n h zero l = omega arith
    one n h (suc i) l = absurd (omega arith)

    more : (n : ℕ) (ds : List ℕ) → 10 ≤ n → ((i : ℕ) → i < length ds → IsDigit (get_or ds i 0))
        → (i : ℕ) → i < length (ds ++ digit (n % 10) ∷ []) → IsDigit (get_or (ds ++ digit (n % 10) ∷ []) i 0)
    more n ds h ih i l =
        ⊎_elim (λ (q : i ≡ length ds). rw (get_or_at ds (digit (n % 10)) [] 0 i (sym q)) (omega arith))
        (λ (q : i < length ds). rw (get_or-append ds (digit (n % 10) ∷ []) 0 i q) (ih i q))
        (eq-or-lt_of_le (le_of_suc-le-suc (rw last-length at l)))

no_leading_zero_lem : (n : ℕ) → (0 < length (decimal n)) × (0 < n → digit 0 < get_or (decimal n) 0 0)
no_leading_zero_lem =
    by-tens (λ n ds. (0 < length ds) × (0 < n → digit 0 < get_or ds 0 0)) (λ n h. (omega arith, λ l. omega arith))
    (λ n ds h ih. (rw last-length (omega arith), λ l. rw (get_or-append ds (digit (n % 10) ∷ []) 0 0 ih.0) (ih.1 (omega arith))))

pub decimals : Decimals
unfolding reads_after decimal decimal_within
decimals =
    record {
      reads_back = by-tens (λ n ds. reads_after 0 ds ≡ n) (λ n h. omega arith) (λ n ds h e. rw (reads-last, e) (omega arith));
      all_digits = all_digits_lem;
      zero_is = refl;
      no_leading_zero = λ n h e. omega (arith, (no_leading_zero_lem n).1 h);
    }
