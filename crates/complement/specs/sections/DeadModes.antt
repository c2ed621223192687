-- The table of which modes are dead.
-- A reader of the promises may skip this file.
use Rattle.std.specs.Prelude.{ℕ, ◌<◌, ◌≡◌, Bool, false, List, get_or}
use Rattle.model.specs.Nets.{PNet, modes, mode_no}
use Rattle.second_form.specs.Dead.{is_dead}

pub record DeadAre (net : PNet) (dead : List Bool) : Type 0 where
  pub each : (t : ℕ) → t < modes net → get_or dead t false ≡ is_dead net (mode_no t)
