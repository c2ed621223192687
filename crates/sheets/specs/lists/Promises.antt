-- What is promised of a weight.
use Rattle.std.specs.Prelude.{ℕ, ◌≤◌, ◌<◌, ◌≡◌, pos, ◌-ℤ◌}
use Rattle.sheets.specs.lists.Weights.{signed}

-- a weight's 4 bytes are a number in two's complement: from 2^31 on it is less by 2^32, and FF FF FF FF is -1
pub record SignedWeights : Type 0 where
  pub positive : (x : ℕ) → x < 2147483648 → signed x ≡ pos x
  pub negative : (x : ℕ) → 2147483648 ≤ x → x < 4294967296 → signed x ≡ pos x -ℤ pos 4294967296
