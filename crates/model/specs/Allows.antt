-- When a rule lets a row fire (demand 2): "In demand 2 this condition decides for rule 1, and source document 000 goes on deciding for rule 0." (document 02, P10)
use Rattle.std.specs.Prelude.{ℕ, ◌+◌, ◌≤◌, ◌<◌}
use Rattle.model.specs.declared.CapacityRule.{CapacityRule}
use Rattle.model.specs.declared.CapacityRule.TheVariants.{Strong, Weak}
use Rattle.model.specs.Numbers.{◌≤∞◌, ◌+∞◌}
use Rattle.model.specs.Rows.{Row, Capacities, Counts}
use Rattle.model.specs.Billington.{Enables}

-- "M + Post ≤ K + Pre, with the other two conditions as before"
pub record EnablesWeakly (n : ℕ) (K : Capacities) (row : Row) (M : Counts) : Type 0 where
  pub enough : (p : ℕ) → p < n → (row p).pre ≤ M p
  pub room : (p : ℕ) → p < n → M p + (row p).post ≤∞ K p +∞ (row p).pre
  pub uninhibited : (p : ℕ) → p < n → M p ≤∞ (row p).inhibitor

abbrev pub Allows : CapacityRule → ℕ → Capacities → Row → Counts → Type 0
Allows Strong = Enables
Allows Weak = EnablesWeakly
