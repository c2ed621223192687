-- What the functions speak of, here and in `salvage`. A reader of the promises may skip this file.
use Rattle.std.specs.Prelude.{ℕ, ◌≤◌, ◌≡◌, List, length}
use Rattle.heads.specs.Layout.{body_length, version}

-- damaged bytes that are not refused
pub record Legible (s : List ℕ) : Type 0 where
  pub there : 5 ≤ length s
  pub versioned : 1 ≤ body_length s
  pub version : version s ≡ 1
