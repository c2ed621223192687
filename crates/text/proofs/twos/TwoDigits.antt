-- The digits of a number cut in two, and the table of two digits.
use Prim.Native.Nat.{ℕ, zero, suc, ◌+◌, ◌*◌, ◌/◌, ◌%◌, ◌^◌, ◌≤◌, ◌<◌}
use mathlib.Core.Path.{◌≡◌, refl, sym, ◌∙◌, ap}
use mathlib.Core.List.{List, [], ◌∷◌, ◌++◌, append_assoc, append-nil}
use lib.ListN.{get_or}
use native.Mathlib.Nat.{zero-add, suc-add, mul_assoc, div-one, div-div-eq-div-mul, div-add-mod, pow-zero, pow-suc, pow-succ', one-le-pow, mod-eq_of_lt}
use native.Mathlib.Omega.{arith}
use Rattle.text.specs.Decimals.{digit, decimal}
use Rattle.text.specs.LastDigits.{last_digits}
use Rattle.text.specs.twos.Twos.{TwosAre}
use Rattle.text.proofs.Decimals.{from_ten, length-at-most, length_above}
use Rattle.text.proofs.LastDigits.{last-digits-all}

-- what stands before the last k digits does not change them
last-over : (k x n : ℕ) → last_digits k (10 ^ k * x + n) ≡ last_digits k n
unfolding last_digits
last-over zero x n = refl
last-over (suc k) x n =
    let y = 10 ^ k * x in
    let e : 10 ^ suc k * x ≡ 10 * y = rw (pow-succ', mul_assoc) in
    let tenth : (10 * y + n) / 10 ≡ y + n / 10 = omega arith in
    let one : (10 * y + n) % 10 ≡ n % 10 = omega arith in
    rw (e, tenth, one, last-over k x (n / 10))

last_within : (k n : ℕ) → last_digits k (n % 10 ^ k) ≡ last_digits k n
last_within k n = sym (last-over k (n / 10 ^ k) (n % 10 ^ k)) ∙ ap (last_digits k) (div-add-mod n (10 ^ k))

tenths : (k n : ℕ) → n / 10 / 10 ^ k ≡ n / 10 ^ suc k
tenths k n = rw (div-div-eq-div-mul, pow-succ')

-- What is a tenth's digits and then the last digit, as long as `Q` holds, is the digits of n / 10 ^ k and then k.
module _ (f : ℕ → ℕ → List ℕ) (Q : ℕ → ℕ → Type 0)
    (step : (k n : ℕ) → Q (suc k) n → Q k (n / 10) × (f (suc k) n ≡ f k (n / 10) ++ digit (n % 10) ∷ [])) where
  cut_off : (k n : ℕ) → Q k n → f k n ≡ f 0 (n / 10 ^ k) ++ last_digits k n
  unfolding last_digits
  cut_off zero n q = rw (append-nil, pow-zero, div-one)
  cut_off (suc k) n q = let s = step k n q in rw (s.1, cut_off k (n / 10) s.0, tenths k n) (simp append_assoc)

  cut : (k n : ℕ) → Q k n → f k n ≡ f 0 (n / 10 ^ k) ++ last_digits k (n % 10 ^ k)
  cut k n q = rw last_within (cut_off k n q)

pub last-cut : (j k n : ℕ) → last_digits (k + j) n ≡ last_digits j (n / 10 ^ k) ++ last_digits k (n % 10 ^ k)
unfolding last_digits
last-cut j k n =
    cut (λ k. last_digits (k + j)) (λ k n. Unit {0}) (λ k n q. (tt, rw (suc-add k j))) k n tt
    ∙ ap (λ i. last_digits i (n / 10 ^ k) ++ last_digits k (n % 10 ^ k)) (zero-add j)

pub decimal-cut : (k n : ℕ) → 10 ^ k ≤ n → decimal n ≡ decimal (n / 10 ^ k) ++ last_digits k (n % 10 ^ k)
decimal-cut =
    cut (λ k. decimal) (λ k n. 10 ^ k ≤ n)
    (λ k n q. (omega (arith, pow-suc 10 k), from_ten n (omega (arith, pow-suc 10 k, one-le-pow k 10 (omega arith)))))

pub two_digits : (n : ℕ) → 10 ≤ n → n < 100 → decimal n ≡ last_digits 2 n
two_digits n h l = sym (last-digits-all n) ∙ ap (λ k. last_digits k n) (omega (arith, length-at-most n 1 l, length_above n 1 (omega arith)))

module _ {table : List ℕ} {k : ℕ} where
  pub two-read : TwosAre 100 table → k < 100 → last_digits 2 k ≡ get_or table (2 * k) 0 ∷ get_or table (2 * k + 1) 0 ∷ []
  unfolding last_digits
  two-read twos h = rw (twos.ten k h, twos.one k h, mod-eq_of_lt {n = k / 10} {m = 10} (omega arith))
