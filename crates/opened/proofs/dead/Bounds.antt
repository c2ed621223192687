-- K less Post, as a sheet writes it; and what lives by document 01's rule lives by the weak one.
use Prim.Native.Nat.{ℕ, ◌-◌, ◌≤◌, ◌<◌}
use mathlib.Core.Path.{◌≡◌, ap}
use mathlib.Core.Bool.{false}
use mathlib.Core.Logic.{◌≢◌}
use native.Mathlib.Omega.{arith}
use Rattle.model.specs.declared.CapacityRule.{CapacityRule}
use Rattle.model.specs.declared.CapacityRule.TheVariants.{Strong, Weak}
use Rattle.model.specs.Numbers.{ℕ∞, fin, ∞, ◌≤∞◌, above, less_than}
use Rattle.model.specs.Rows.{Entry}
use Rattle.second_form.specs.Dead.{highest_pre, kills}
use Rattle.model.proofs.Both.{or_neither}
use Rattle.model.proofs.Numbers.{above_false, false_above, below-least-of}
use Rattle.fields.specs.Numbers.{unbounded, bound}
use Rattle.fields.proofs.Bounds.{bound-finite}

pub less_none : (k n : ℕ) → k ≢ unbounded → k < n → bound 0 ≡ less_than (bound k) n
less_none k n h l = rw (bound-finite 0 (λ e. omega arith), bound-finite k h) (ap {B = ℕ∞} fin (omega arith))

pub less-some : (k n : ℕ) → k ≢ unbounded → k ≤ unbounded → bound (k - n) ≡ less_than (bound k) n
less-some k n h f = rw (bound-finite (k - n) (λ e. h (omega arith)), bound-finite k h)

less-within : (n post : ℕ) (k : ℕ∞) → n ≤∞ less_than k post → n ≤∞ k
less-within n post (fin k) h = omega arith
less-within n post ∞ h = tt

pub spared : (rule : CapacityRule) (e : Entry) (k : ℕ∞) → kills Strong e k ≡ false → kills rule e k ≡ false
spared Strong e k h = h
spared Weak e k h =
    let both = or_neither (above e.pre (highest_pre Strong e k)) (above e.post k) h in
    let low = (below-least-of e.pre (less_than k e.post) e.inhibitor).0 (above_false e.pre (highest_pre Strong e k) both.0) in
    let within = (below-least-of e.pre k e.inhibitor).1 (less-within e.pre e.post k low.0, low.1) in
    rw (both.1, false_above e.pre (highest_pre Weak e k) within)
