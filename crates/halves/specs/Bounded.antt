-- The table of how many pairs of finite K stand below each pair.
-- A reader of the promises may skip this file.
use Rattle.std.specs.Prelude.{ℕ, ◌≤◌, ◌≡◌, List, get_or}
use Rattle.model.specs.Nets.{PNet, pairs, K}
use Rattle.second_form.specs.Complement.{bounded_below}

pub record BelowAre (net : PNet) (below : List ℕ) : Type 0 where
  pub each : (p : ℕ) → p ≤ pairs net → get_or below p 0 ≡ bounded_below (K net) p
