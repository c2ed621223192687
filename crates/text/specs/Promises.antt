-- What is promised of decimals, so that their definition need not be taken on trust. The one term is `decimals` of proofs/Decimals.antt.
use Rattle.std.specs.Prelude.{ℕ, ◌+◌, ◌-◌, ◌*◌, ◌≤◌, ◌<◌, ◌≡◌, List, [], ◌∷◌, ◌≢◌, length, get_or}
use Rattle.text.specs.Decimals.{digit, decimal}

-- the number that a run of digits reads as, after digits that read as `before`
unfoldable pub reads_after : ℕ → List ℕ → ℕ
reads_after before [] = before
reads_after before (b ∷ bs) = reads_after (before * 10 + (b - digit 0)) bs

pub record Decimals : Type 0 where
  pub reads_back : (n : ℕ) → reads_after 0 (decimal n) ≡ n
  pub all_digits : (n i : ℕ) → i < length (decimal n) → (digit 0 ≤ get_or (decimal n) i 0) × (get_or (decimal n) i 0 ≤ digit 9)
  -- zero is `0`, and no other number begins with it
  pub zero_is : decimal 0 ≡ digit 0 ∷ []
  pub no_leading_zero : (n : ℕ) → 0 < n → get_or (decimal n) 0 0 ≢ digit 0
