-- One bounded pair and its complement: the complement lacks exactly where the original is crowded, by the larger amount, and a movement keeps their sum.
use Prim.Native.Nat.{ℕ, zero, suc, ◌+◌, ◌-◌, ◌≤◌, ◌<◌, max}
use mathlib.Core.Path.{◌≡◌, refl, sym, ◌∙◌, ap, ap₂}
use mathlib.Core.Bool.{Bool, true, false, cond, ◌||◌}
use lib.Dec.{leb, ltb}
use borrow.Author.Tests.{ltb-true, ltb-false, leb-true, lt-ltb, le-ltb}
use native.Mathlib.Omega.{arith}
use Rattle.model.specs.declared.CapacityRule.{CapacityRule}
use Rattle.model.specs.declared.CapacityRule.TheVariants.{Strong, Weak}
use Rattle.model.specs.Numbers.{ℕ∞, fin, ∞, above, above_by}
use Rattle.model.specs.Rows.{Entry, Row, Capacities}
use Rattle.model.specs.Firing.{after, room_for}
use Rattle.second_form.specs.Complement.{bounded_below, complement_pair, complemented, reserve, claim, complement_pre, original, complement_entry, complement_row}
use Rattle.second_form.specs.DemandThree.{crowded, crowded_by}
use Rattle.second_form.proofs.Bounded.{bounded_at}

-- the floor at 0 is the truncated difference
pub reserve-is : (k i : ℕ) → reserve k (fin i) ≡ k - i
reserve-is k i = go (leb k i) refl
  where
    go : (b : Bool) → leb k i ≡ b → reserve k (fin i) ≡ k - i
    go true e = rw e (omega (arith, leb-true k i e))
    go false e = rw e

pub claim-within : (rule : CapacityRule) (e : Entry) → claim rule e ≤ e.post
claim-within Strong e = omega arith
claim-within Weak e = omega arith

pub reserve-within : (k : ℕ) (i : ℕ∞) → reserve k i ≤ k
reserve-within k (fin i) = rw reserve-is (omega arith)
reserve-within k ∞ = omega arith

-- what a movement may not find room for, by either rule
crowds : (rule : CapacityRule) (k m m' : ℕ) (e : Entry) → m + m' ≡ k → claim rule e - m' ≡ above_by (m + e.post) (room_for rule (fin k) e.pre)
crowds Strong k m m' e s = omega arith
crowds Weak k m m' e s = omega arith

-- and what it leaves below the inhibitor
reserves : (k m m' : ℕ) (i : ℕ∞) → m + m' ≡ k → reserve k i - m' ≡ above_by m i
reserves k m m' (fin i) s = rw reserve-is (omega arith)
reserves k m m' ∞ s = omega arith

above-by : (n : ℕ) (b : ℕ∞) → above n b ≡ ltb 0 (above_by n b)
above-by n (fin k) = go (ltb k n) refl
  where
    go : (b : Bool) → ltb k n ≡ b → ltb k n ≡ ltb 0 (n - k)
    go true e = e ∙ sym (lt-ltb 0 (n - k) (omega (arith, ltb-true k n e)))
    go false e = e ∙ sym (le-ltb 0 (n - k) (omega (arith, ltb-false k n e)))
above-by n ∞ = refl

above-either : (a b : ℕ) → ltb 0 (max a b) ≡ (ltb 0 a || ltb 0 b)
above-either zero b = let q : max 0 b ≡ b = omega arith in rw q
above-either (suc a) b = rw (lt-ltb 0 (suc a) (omega arith)) (lt-ltb 0 (max (suc a) b) (omega arith))

-- it lacks the larger of the two amounts
pub lacks-by : (rule : CapacityRule) (k m m' : ℕ) (e : Entry) → m + m' ≡ k → complement_pre rule k e - m' ≡ crowded_by e (room_for rule (fin k) e.pre) m
lacks-by rule k m m' e s = omega (arith, crowds rule k m m' e s, reserves k m m' e.inhibitor s)

pub lacks-crowded : (rule : CapacityRule) (k m m' : ℕ) (e : Entry) → m + m' ≡ k
    → above (complement_pre rule k e) (fin m') ≡ crowded e (room_for rule (fin k) e.pre) m
lacks-crowded rule k m m' e s =
    let room = room_for rule (fin k) e.pre in
    above-by (complement_pre rule k e) (fin m')
    ∙ ap (ltb 0) (lacks-by rule k m m' e s)
    ∙ above-either (above_by (m + e.post) room) (above_by m e.inhibitor)
    ∙ ap₂ ◌||◌ (sym (above-by (m + e.post) room)) (sym (above-by m e.inhibitor))

-- Post is no more than complement Pre and Pre
pub claimed : (rule : CapacityRule) (k : ℕ) (e : Entry) → e.post ≤ complement_pre rule k e + e.pre
claimed Strong k e = omega arith
claimed Weak k e = omega arith

pub sum_kept : (rule : CapacityRule) (k m m' : ℕ) (e : Entry) → m + m' ≡ k → e.pre ≤ m → complement_pre rule k e ≤ m'
    → after e m + after (complement_entry rule false (fin k) e) m' ≡ k
sum_kept rule k m m' e s h l = omega (arith, claimed rule k e)

-- what a dead mode would take it gives back
pub complement-within : (rule : CapacityRule) (dead : Bool) (k m m' : ℕ) (e : Entry) → m + m' ≡ k → e.pre ≤ m → complement_pre rule k e ≤ m'
    → after (complement_entry rule dead (fin k) e) m' ≤ k
complement-within rule true k m m' e s h l = omega arith
complement-within rule false k m m' e s h l = omega (arith, sum_kept rule k m m' e s h l)

module _ (rule : CapacityRule) (dead : Bool) (n : ℕ) (K : Capacities) (row : Row) where
  pub row-original : (p : ℕ) → p < n → complement_row rule dead n K row p ≡ original (row p)
  unfolding complement_row
  row-original p h = rw (lt-ltb p n h)

  pub row-complement : (p k : ℕ) → p < n → K p ≡ fin k → complement_row rule dead n K row (complement_pair n K p) ≡ complement_entry rule dead (fin k) (row p)
  unfolding complement_row
  row-complement p k h e =
      let out : ltb (complement_pair n K p) n ≡ false = le-ltb (complement_pair n K p) n (omega arith) in
      let back : complement_pair n K p - n ≡ bounded_below K p = omega arith in
      rw (out, back, bounded_at K n p k h e, e)

  pub row-uninhibited : (p : ℕ) → (complement_row rule dead n K row p).inhibitor ≡ ∞
  unfolding complement_row
  row-uninhibited p = go (ltb p n) (K (complemented n K p))
    where
      go : (b : Bool) (k : ℕ∞) → (cond b (original (row p)) (complement_entry rule dead k (row (complemented n K p)))).inhibitor ≡ ∞
      go true k = refl
      go false (fin k) = refl
      go false ∞ = refl
