-- One number for an arc: the counts below it, from Pre on, are those at which nothing of 11 to 14 stops the mode there.
use Prim.Native.Nat.{ℕ, ◌+◌, ◌-◌, ◌≤◌, ◌<◌}
use mathlib.Core.Path.{◌≡◌, refl}
use mathlib.Core.Bool.{Bool, true, false}
use mathlib.Core.Logic.{◌↔◌}
use native.Mathlib.Omega.{arith}
use Rattle.model.specs.declared.Why.{Why}
use Rattle.model.specs.declared.Why.TheVariants.{Lacking, OverCapacity, Inhibited, OverLimit}
use Rattle.model.specs.Numbers.{ℕ∞, fin, ∞, ◌≤∞◌, above, least, less_than, limit}
use Rattle.model.specs.Rows.{Entry}
use Rattle.model.specs.Firing.{after, stops}
use Rattle.model.specs.PassBelow.{pass_below}
use Rattle.model.proofs.Numbers.{above_true, above_false, false_above, not_above, le_le∞, below-least}

fits-room : (m : ℕ) (k : ℕ∞) (n : ℕ) → n ≤∞ k → (m ≤∞ less_than k n) ↔ (m + n ≤∞ k)
fits-room m (fin k) n h = (λ l. omega arith, λ l. omega arith)
fits-room m ∞ n h = (λ l. tt, λ l. tt)

module _ (e : Entry) (k : ℕ∞) (m : ℕ) where
  -- nothing of 11 to 14 stops the mode there
  abbrev Unstopped : Type 0
  Unstopped = (why : Why) → stops why e k m ≡ false

  abbrev highest : ℕ
  highest = least (less_than k e.post) (least e.inhibitor (limit + e.pre - e.post))

  highest-is : e.post ≤∞ k → (m ≤ highest) ↔ ((m + e.post ≤∞ k) × (m ≤∞ e.inhibitor) × (m ≤ limit + e.pre - e.post))
  highest-is fits = (
    λ l.
        let all = (below-least m (less_than k e.post) _).0 l in
        let low = (below-least m e.inhibitor _).0 all.1 in
        ((fits-room m k _ fits).0 all.0, low.0, low.1),
    λ l. (below-least m (less_than k e.post) _).1 ((fits-room m k _ fits).1 l.0, (below-least m e.inhibitor _).1 (l.1, l.2)),
  )

  -- Post alone above K: the mode never passes
  never : above e.post k ≡ true → ¬ Unstopped
  never q free = not_above _ k (le_le∞ _ (m + e.post) k (omega arith) (above_false _ k (free OverCapacity))) (above_true _ k q)

  passes : e.post ≤ limit → e.post ≤∞ k → Unstopped ↔ ((e.pre ≤ m) × (m ≤ highest))
  passes h fits = (
    λ free.
        let enough : e.pre ≤ m = above_false e.pre (fin m) (free Lacking) in
        let kept : after e m ≤ limit = above_false (after e m) (fin limit) (free OverLimit) in
        (enough, (highest-is fits).1 (above_false _ k (free OverCapacity), above_false m e.inhibitor (free Inhibited), omega arith)),
    λ l.
        let all = (highest-is fits).0 l.1 in
        elim [
          | Lacking ↦ false_above e.pre (fin m) l.0
          | OverCapacity ↦ false_above _ k all.0
          | Inhibited ↦ false_above m e.inhibitor all.1
          | OverLimit ↦ false_above (after e m) (fin limit) (omega arith)
        ],
  )

  -- a count passes all four tests exactly when it is at least Pre and below the arc's number
  pub pass_is : e.post ≤ limit → Unstopped ↔ ((e.pre ≤ m) × (m < pass_below e k))
  unfolding pass_below
  pass_is h = go (above e.post k) refl
    where
      go : (b : Bool) → above e.post k ≡ b → Unstopped ↔ ((e.pre ≤ m) × (m < pass_below e k))
      go true q = rw q (λ free. absurd (never q free), λ l. absurd (omega arith))
      go false q = let p = passes h (above_false _ k q) in rw q (λ free. omega (arith, p.0 free), λ l. p.1 (omega arith))
