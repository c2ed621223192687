-- What one arc becomes: at its own pair, and at the complement pair.
-- A reader of the promises may skip this file.
use Rattle.std.specs.Prelude.{ℕ, ◌≤◌, Bool}
use Rattle.model.specs.declared.CapacityRule.{CapacityRule}
use Rattle.model.specs.declared.Pair.{Pair}
use Rattle.model.specs.declared.Arc.{Arc}
use Rattle.model.specs.Numbers.{ℕ∞, limit}
use Rattle.model.specs.Nets.{NetArc}
use Rattle.model.specs.WellFormed.{InRange}
use Rattle.second_form.specs.Complement.{complement_entry}
use Rattle.fields.specs.Numbers.{bound}

-- an arc that was read, and the capacity of its pair
pub record Small (a : Arc) (k : ℕ) : Type 0 where
  pub pre : a.pre ≤ limit
  pub post : a.post ≤ limit
  pub capacity : InRange (bound k)

-- what an arc of a mode, dead or not, puts by a rule at the complement pair; what it leaves at its own is `on_original` of model/specs/Promises.antt
abbrev pub complement_at : Pair → CapacityRule → Bool → ℕ∞ → NetArc → NetArc
complement_at pair rule dead k a = record { mode = a.mode; pair = pair; entry = complement_entry rule dead k a.entry }
