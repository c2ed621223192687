-- What both capacity rules share: a count within K has room, and a movement that has room stays within K.
use Prim.Native.Nat.{ℕ, ◌+◌, ◌≤◌}
use mathlib.Core.Path.{◌≡◌, refl}
use mathlib.Core.Logic.{◌↔◌}
use native.Mathlib.Omega.{arith}
use Rattle.model.specs.declared.CapacityRule.{CapacityRule}
use Rattle.model.specs.declared.CapacityRule.TheVariants.{Strong, Weak}
use Rattle.model.specs.Numbers.{ℕ∞, fin, ∞, ◌≤∞◌}
use Rattle.model.specs.Rows.{Entry, Row, Capacities, Counts}
use Rattle.model.specs.Allows.{Allows}
use Rattle.model.specs.Firing.{after, room_for}
use Rattle.model.proofs.Numbers.{le_le∞}
use Rattle.model.proofs.Firing.{Conditions, conditions_enable, enables_conditions}

pub within-room : (rule : CapacityRule) (k : ℕ∞) (pre m : ℕ) → m ≤∞ k → m ≤∞ room_for rule k pre
within-room Strong k pre m h = h
within-room Weak (fin k) pre m h = omega arith
within-room Weak ∞ pre m h = tt

-- where there is no capacity there is room
pub room-unbounded : (rule : CapacityRule) (pre : ℕ) → room_for rule ∞ pre ≡ ∞
room-unbounded Strong pre = refl
room-unbounded Weak pre = refl

-- by document 01's rule a count that has room is within K before anything is put there
pub room_within : (rule : CapacityRule) (k : ℕ∞) (pre post m : ℕ) → m + post ≤∞ room_for rule k pre → (rule ≡ Weak → m ≤∞ k) → m ≤∞ k
room_within Strong k pre post m h within = le_le∞ m _ k (omega arith) h
room_within Weak k pre post m h within = within refl

pub kept-within : (rule : CapacityRule) (k : ℕ∞) (e : Entry) (m : ℕ) → e.pre ≤ m → m + e.post ≤∞ room_for rule k e.pre → after e m ≤∞ k
kept-within Strong (fin k) e m h l = omega arith
kept-within Strong ∞ e m h l = tt
kept-within Weak (fin k) e m h l = omega arith
kept-within Weak ∞ e m h l = tt

-- what a rule allows is the three conditions with its room
pub allows_is : (rule : CapacityRule) (n : ℕ) (K : Capacities) (r : Row) (M : Counts) → Conditions n (λ p. room_for rule (K p) (r p).pre) r M ↔ Allows rule n K r M
allows_is Strong n K r M = (conditions_enable, enables_conditions)
allows_is Weak n K r M = (
  λ h. record { enough = h.enough; room = h.room; uninhibited = h.low },
  λ h. record { enough = h.enough; room = h.room; low = h.uninhibited },
)
