-- The mode and the pair of an arc as one number, which the reader compares.
-- A reader of the promises may skip this file.
use Rattle.std.specs.Prelude.{ℕ, ◌+◌, ◌*◌, ◌<◌, ◌≡◌, List}
use Rattle.heads.specs.Bytes.{u16_at}
use Rattle.heads.specs.Layout.{arc_mode_at, arc_pair_at}

-- of the arc at `at`: its mode above its pair, of 2 bytes
pub record NamesAt (s : List ℕ) (at names : ℕ) : Type 0 where
  pub are : names ≡ u16_at s (arc_mode_at at) * 65536 + u16_at s (arc_pair_at at)
  pub pair : u16_at s (arc_pair_at at) < 65536
