-- A number of a sheet as a bound, in 32 bits: 4,294,967,295, which means unbounded, needs no test of its own.
use Prim.Native.Nat.{ℕ, ◌+◌, ◌-◌, ◌≤◌, ◌<◌, min}
use mathlib.Core.Path.{◌≡◌, refl, sym}
use lib.Dec.{ltb}
use native.Mathlib.Omega.{arith}
use borrow.Author.Tests.{lt-ltb, le-ltb}
use Rattle.model.specs.declared.Arc.{Arc}
use Rattle.model.specs.Numbers.{above, least, less_than, limit}
use Rattle.model.specs.PassBelow.{pass_below}
use Rattle.fields.specs.Numbers.{unbounded, bound}
use Rattle.sheets.specs.Decoded.{net_arc}
use Rattle.fields.proofs.Bounds.{by-bound}

bound-above : (n x : ℕ) → n ≤ unbounded → above n (bound x) ≡ ltb x n
bound-above n x h = by-bound (λ b. above n b ≡ ltb x n) x (λ q. sym (le-ltb x n (omega arith))) refl

-- the least of two numbers, where the second is not near 4,294,967,295
bound-least : (x h : ℕ) → h ≤ unbounded → least (bound x) h ≡ min x h
bound-least x h l = by-bound (λ b. least b h ≡ min x h) x (λ q. omega arith) refl

room-least : (x n h : ℕ) → n + h ≤ unbounded → least (less_than (bound x) n) h ≡ min (x - n) h
room-least x n h l = by-bound (λ b. least (less_than b n) h ≡ min (x - n) h) x (λ q. omega arith) refl

-- the number of an arc, from what its sheet writes
module _ (a : Arc) (x : ℕ) (read : (a.pre ≤ limit) × (a.post ≤ limit)) where
  pub never-passes : x < a.post → pass_below (net_arc a).entry (bound x) ≡ 0
  unfolding pass_below
  never-passes h = rw (bound-above a.post x (omega arith), lt-ltb x a.post h)

  pub passes-below : a.post ≤ x
      → pass_below (net_arc a).entry (bound x) ≡ min (x - a.post) (min a.inhibitor (limit + a.pre - a.post)) + 1
  unfolding pass_below
  passes-below h =
      rw
      (bound-above a.post x (omega arith), le-ltb x a.post h, bound-least a.inhibitor (limit + a.pre - a.post) (omega arith), room-least x a.post (min a.inhibitor (limit + a.pre - a.post)) (omega arith))
