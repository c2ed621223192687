-- The table of two digits. A reader of the promises may skip this file.
use Rattle.std.specs.Prelude.{ℕ, ◌+◌, ◌*◌, ◌/◌, ◌%◌, ◌<◌, ◌≡◌, List, get_or}
use Rattle.text.specs.Decimals.{digit}

-- a table that begins with the first `count` of "00" to "99"
pub record TwosAre (count : ℕ) (table : List ℕ) : Type 0 where
  pub ten : (k : ℕ) → k < count → get_or table (2 * k) 0 ≡ digit (k / 10)
  pub one : (k : ℕ) → k < count → get_or table (2 * k + 1) 0 ≡ digit (k % 10)
