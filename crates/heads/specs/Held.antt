-- What the private functions and the shared parts require: facts that the tests of a sheet have established.
-- A reader of the promises may skip this file.
use Rattle.std.specs.Prelude.{ℕ, ◌≤◌, List, length}
use Rattle.heads.specs.Layout.{body_length, sheet_end, colours_at, place_count, transition_count, pair_count, mode_count, pairs_offset}

-- the bytes hold a whole sheet, with a version byte
pub record Headed (s : List ℕ) : Type 0 where
  pub there : sheet_end s ≤ length s
  pub versioned : 1 ≤ body_length s

-- the place count and the transition count of a net sheet are there and within their limits
pub record Sized (s : List ℕ) : Type 0 where
  pub head : Headed s
  pub there : colours_at s ≤ sheet_end s
  pub some_place : 1 ≤ place_count s
  pub places : place_count s ≤ 64
  pub transitions : transition_count s ≤ 64

-- the counts that they announce are there, and their totals within the limits
pub record Counted (s : List ℕ) : Type 0 where
  pub sized : Sized s
  pub there : pairs_offset s ≤ sheet_end s
  pub pairs : pair_count s ≤ 256
  pub modes : mode_count s ≤ 256
