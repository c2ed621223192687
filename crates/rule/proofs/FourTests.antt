-- The four tests at one arc: one that stops the mode, or none.
use Prim.Native.Nat.{ℕ, ◌≤◌}
use mathlib.Core.Path.{◌≡◌, refl, sym, ◌∙◌}
use mathlib.Core.Bool.{Bool, true, false, cond, not, ◌||◌}
use lib.Dec.{ltb, eqb}
use borrow.Author.Tests.{le-ltb, eqb-true}
use mathlib.Core.Logic.{◌↔◌}
use native.Mathlib.Omega.{arith}
use Rattle.model.specs.declared.Why.{Why}
use Rattle.model.specs.declared.Why.TheVariants.{Lacking, OverCapacity, Inhibited, OverLimit}
use Rattle.model.specs.Numbers.{ℕ∞, fin, ∞, above, limit}
use Rattle.fields.specs.Numbers.{unbounded, bound}
use Rattle.model.specs.Rows.{Entry}
use Rattle.model.specs.Firing.{stops}
use Rattle.model.specs.WellFormed.{InRange}
use Rattle.fields.proofs.Bounds.{bound-finite}
use Rattle.rule.specs.AtPair.{Unstopped}

pub clash : {A : Type 0} → true ≡ false → A
clash e = let z : ◌≡◌ {A = ℕ} 0 1 = cc in absurd (omega arith)

-- no count is above the number that means unbounded
pub above-small : (m i : ℕ) → m ≤ limit → ltb i m ≡ above m (bound i)
unfolding bound
above-small m i h = go (eqb i unbounded) refl
  where
    go : (t : Bool) → eqb i unbounded ≡ t → ltb i m ≡ above m (cond t ∞ (fin i))
    go true e = le-ltb i m (omega (arith, eqb-true i unbounded e))
    go false e = refl

-- a K in range that is not unbounded is a number of a sheet
pub finite_in_range : (k : ℕ) → InRange (bound k) → (k ≡ unbounded → ⊥) → k ≤ limit
finite_in_range k h not = rw (bound-finite k not) at h

-- what `p || r` gives where p is a: p itself where it is true, and otherwise what r is then
pub or-first : {a p v : Bool} (b : Bool) → p ≡ a → p ≡ true → v ≡ p → v ≡ a || b
or-first b e q h = rw (← e, h, q)

pub or-second : {a b p v r : Bool} → p ≡ a → p ≡ false → r ≡ b → v ≡ r → v ≡ a || b
or-second e q f h = rw (← e, q, h, f)

module _ (e : Entry) (k : ℕ∞) (m : ℕ) where
  one-stops : (why : Why) → stops why e k m ≡ true → (false ≡ true) ↔ Unstopped e k m
  one-stops why h = (λ z. clash (sym z), λ free. clash (sym h ∙ free why))

  pub unless-stopped : {t : Bool}
      → t ≡ stops Lacking e k m || stops OverCapacity e k m || stops Inhibited e k m || stops OverLimit e k m
      → (not t ≡ true) ↔ Unstopped e k m
  unless-stopped h = rw h (go (stops Lacking e k m) (stops OverCapacity e k m) (stops Inhibited e k m) (stops OverLimit e k m) refl refl refl refl)
    where
      go : (a b c d : Bool) → stops Lacking e k m ≡ a → stops OverCapacity e k m ≡ b → stops Inhibited e k m ≡ c → stops OverLimit e k m ≡ d
          → (not (a || b || c || d) ≡ true) ↔ Unstopped e k m
      go true b c d p q r s = one-stops Lacking p
      go false true c d p q r s = one-stops OverCapacity q
      go false false true d p q r s = one-stops Inhibited r
      go false false false true p q r s = one-stops OverLimit s
      go false false false false p q r s = (λ _. elim [ Lacking ↦ p | OverCapacity ↦ q | Inhibited ↦ r | OverLimit ↦ s ], λ _. refl)
