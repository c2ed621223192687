-- The table of the weight changes of all modes.
-- A reader of the promises may skip this file.
use Rattle.std.specs.Prelude.{ℕ, ◌≤◌, ◌<◌, ◌≡◌, List, ℤ, pos, length, get_or}
use Rattle.model.specs.Nets.{PNet, modes, mode_no}
use Rattle.movement.specs.Figures.{change}

pub record ChangesAre (net : PNet) (weights changes : List ℤ) : Type 0 where
  pub long : modes net ≤ length changes
  pub each : (t : ℕ) → t < modes net → get_or changes t (pos 0) ≡ change net weights (mode_no t)
