-- The tables that a step's sums stand in.
-- A reader of the promises may skip this file.
use Rattle.std.specs.Prelude.{ℕ, ◌≤◌, ◌<◌, ◌≡◌, List, length, get_or}
use Rattle.fields.specs.Numbers.{unbounded}

-- an entry for each pair that a net may have; those of the least I in 32 bits
pub record Tabled (a b c : List ℕ) : Type 0 where
  pub pre : length a ≡ 256
  pub post : length b ≡ 256
  pub low : length c ≡ 256
  pub fits : (p : ℕ) → p < 256 → get_or c p 0 ≤ unbounded
