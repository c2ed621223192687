-- What an accepted count says, and the running total.
use Prim.Native.Nat.{ℕ, zero, suc, ◌+◌, ◌≤◌}
use mathlib.Core.Path.{◌≡◌, refl}
use mathlib.Core.Bool.{Bool, true, false, ◌||◌}
use mathlib.Core.List.{List, [], ◌∷◌, ◌++◌}
use mathlib.Core.Option.{none}
use native.Mathlib.Omega.{arith}
use native.Mathlib.Numerals.{add-one}
use borrow.Author.Tests.{ltb-false}
use Rattle.model.specs.declared.Thing.{Thing}
use Rattle.model.specs.declared.Thing.TheVariants.{Net}
use Rattle.model.specs.First.{first}
use Rattle.model.specs.Nets.{total}
use Rattle.model.specs.Lists.{table}
use Rattle.model.proofs.First.{left-none, right-none, only_if_none, first-each}
use Rattle.heads.specs.Bytes.{u16_at}
use Rattle.heads.specs.Layout.{sheet_end, count_at, counts, total_of, places_at, transitions_at, colours_at, place_count, transition_count, pair_count, mode_count}
use Rattle.heads.specs.Checks.{count_refusal}
use Rattle.heads.specs.Held.{Headed, Sized, Counted}
use Rattle.fields.specs.Fields.{running_refusal, each_count, count_fields}

pub total-snoc : (xs : List ℕ) (x : ℕ) → total (xs ++ x ∷ []) ≡ total xs + x
total-snoc [] x = omega arith
total-snoc (y ∷ ys) x = rw (total-snoc ys x) (omega arith)

pub total-none : (s : List ℕ) (start : ℕ) → 0 ≡ total_of s start 0
unfolding counts table
total-none s start = refl

pub total-more : (s : List ℕ) (start i : ℕ) → total_of s start (i + 1) ≡ total_of s start i + u16_at s (count_at start i)
unfolding counts table
total-more s start i = rw add-one (total-snoc (counts s start i) (u16_at s (count_at start i)))

pub or_false : (a b : Bool) → a || b ≡ false → (a ≡ false) × (b ≡ false)
or_false false b e = (refl, e)
or_false true b e = let z : ◌≡◌ {A = ℕ} 0 1 = cc in absurd (omega arith)

-- a count is there and within its limits
pub record CountRead (s : List ℕ) (at low high : ℕ) : Type 0 where
  pub there : at + 2 ≤ sheet_end s
  pub least : low ≤ u16_at s at
  pub most : u16_at s at ≤ high

pub count-holds : (thing : Thing) (s : List ℕ) (at low high : ℕ) → count_refusal thing s at low high ≡ none → CountRead s at low high
unfolding count_refusal
count-holds thing s at low high e =
    let limits = or_false _ _ (only_if_none _ _ (right-none _ _ e)) in
    record {
      there = ltb-false _ _ (only_if_none _ _ (left-none _ _ e));
      least = ltb-false _ _ limits.0;
      most = ltb-false _ _ limits.1;
    }

-- the i-th of the counts from `start` on is there, within its limits and within the total
pub record RunningRead (s : List ℕ) (start i : ℕ) : Type 0 where
  pub count : CountRead s (count_at start i) 1 64
  pub in_total : total_of s start (i + 1) ≤ 256

pub running-holds : (s : List ℕ) (start i : ℕ) → running_refusal s start i ≡ none → RunningRead s start i
unfolding running_refusal
running-holds s start i e =
    record { count = count-holds _ s _ 1 64 (left-none _ _ e); in_total = ltb-false _ _ (only_if_none _ _ (right-none _ _ e)) }

pub sized : (s : List ℕ) → Headed s → count_refusal Net s (places_at s) 1 64 ≡ none → count_refusal Net s (transitions_at s) 0 64 ≡ none → Sized s
sized s h e f =
    let places = count-holds Net s (places_at s) 1 64 e in
    let transitions = count-holds Net s (transitions_at s) 0 64 f in
    record { head = h; there = omega (arith, transitions.there); some_place = places.least; places = places.most; transitions = transitions.most }

-- n accepted counts are there, and within the total
pub all-running : (s : List ℕ) (start n : ℕ) → start ≤ sheet_end s → first n (running_refusal s start) ≡ none → (count_at start n ≤ sheet_end s) × (total_of s start n ≤ 256)
all-running s start zero h e = (omega arith, omega (arith, total-none s start))
all-running s start (suc n) h e =
    let last = running-holds s start n (first-each (suc n) (running_refusal s start) e n (omega arith)) in
    (omega arith, rw add-one at last.in_total)

pub counted : (s : List ℕ) → Headed s → count_fields s ≡ none → Counted s
unfolding count_fields each_count pair_count mode_count
counted s h e =
    let e₁ = right-none _ _ e in
    let size = sized s h (left-none _ _ e) (left-none _ _ e₁) in
    let each = right-none _ _ e₁ in
    let colours = all-running s (colours_at s) (place_count s) size.there (left-none _ _ each) in
    let modes = all-running s (count_at (colours_at s) (place_count s)) (transition_count s) colours.0 (right-none _ _ each) in
    record { sized = size; there = modes.0; pairs = colours.1; modes = modes.1 }
