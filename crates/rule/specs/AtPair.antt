-- What the firing rule is told at one pair, and what it says there: what the shared parts of this crate speak of.
-- A reader of the promises may skip this file.
use Rattle.std.specs.Prelude.{ℕ, ◌*◌, ◌≤◌, ◌≡◌, false}
use Rattle.model.specs.declared.Arc.{Arc}
use Rattle.model.specs.declared.Why.{Why}
use Rattle.model.specs.Numbers.{ℕ∞, limit}
use Rattle.model.specs.Rows.{Entry}
use Rattle.model.specs.Firing.{stops}
use Rattle.model.specs.WellFormed.{InRange}
use Rattle.fields.specs.Numbers.{bound}

-- Post of an arc, or of 64 arcs in one sum, and a count of a marking: together they stay in 32 bits
pub record Counted (a : Arc) (m : ℕ) : Type 0 where
  pub post : a.post ≤ 64 * limit
  pub count : m ≤ limit

-- K of a sheet, and Pre of an arc, or of 64 arcs in one sum: together they stay below the number that means unbounded
pub record Roomy (k n : ℕ) : Type 0 where
  pub capacity : InRange (bound k)
  pub pre : n ≤ 64 * limit

-- nothing of 11 to 14 stops a mode where it has e, 12 compares with k and the count is m
abbrev pub Unstopped : Entry → ℕ∞ → ℕ → Type 0
Unstopped e k m = (why : Why) → stops why e k m ≡ false
