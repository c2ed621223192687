-- What a net's arcs write at a mode and pair: the entry of the arc that stands there, and no arc elsewhere.
use Prim.Native.Nat.{ℕ, zero, suc, ◌+◌, ◌<◌}
use mathlib.Core.Path.{◌≡◌, refl, ◌∙◌}
use mathlib.Core.Bool.{Bool, true, false, cond}
use mathlib.Core.List.{List, [], ◌∷◌}
use mathlib.Core.Logic.{inl, inr, ⊎_elim}
use native.Mathlib.Omega.{arith}
use native.Mathlib.Nat.{eq-or-lt_of_le, le_of_suc-le-suc, not-suc-le-zero}
use native.Mathlib.Numerals.{add-one}
use borrow.Author.Tests.{eqb-true, eq-eqb}
use lib.Dec.{eqb}
use lib.ListN.{length}
use Rattle.model.specs.declared.Mode.{Mode}
use Rattle.model.specs.Rows.{no_arc}
use Rattle.model.specs.Nets.{NetArc, arc_no, stands, entry_at}
use Rattle.model.specs.WellFormed.{Rises}

-- "Arcs rise strictly by mode, then pair": each above the one before
abbrev pub Rising : List NetArc → Type 0
Rising arcs = (k : ℕ) → k + 1 < length arcs → Rises (arc_no arcs k) (arc_no arcs (k + 1))

pub rises-on : (a b c : NetArc) → Rises a b → Rises b c → Rises a c
rises-on a b c (inl h) (inl l) = inl (omega arith)
rises-on a b c (inl h) (inr l) = inl (omega arith)
rises-on a b c (inr h) (inl l) = inl (omega arith)
rises-on a b c (inr h) (inr l) = inr (omega arith)

-- so each is above all before it
pub rises-all : (arcs : List NetArc) → Rising arcs → (j k : ℕ) → j < k → k < length arcs → Rises (arc_no arcs j) (arc_no arcs k)
rises-all arcs rising j zero h l = absurd (not-suc-le-zero h)
rises-all arcs rising j (suc k) h l =
    let next : Rises (arc_no arcs k) (arc_no arcs (suc k)) = rw add-one at (rising k (rw add-one l)) in
    ⊎_elim (λ (q : j ≡ k). rw q next)
    (λ (b : j < k). rises-on (arc_no arcs j) (arc_no arcs k) (arc_no arcs (suc k)) (rises-all arcs rising j k b (omega arith)) next)
    (eq-or-lt_of_le (le_of_suc-le-suc h))

pub rises_in_mode : (a b : NetArc) → Rises a b → a.mode.0 ≡ b.mode.0 → a.pair.0 < b.pair.0
rises_in_mode a b (inl h) e = absurd (omega arith)
rises_in_mode a b (inr h) e = h.1

abbrev pub StandsAt : NetArc → Mode → ℕ → Type 0
StandsAt a t p = (a.mode.0 ≡ t.0) × (a.pair.0 ≡ p)

pub rises-apart : (a b : NetArc) (t : Mode) (p : ℕ) → Rises a b → StandsAt b t p → ¬ StandsAt a t p
rises-apart a b t p (inl h) l s = omega arith
rises-apart a b t p (inr h) l s = omega arith

module _ (t : Mode) (p : ℕ) where
  entry_here : (a : NetArc) (arcs : List NetArc) → StandsAt a t p → entry_at (a ∷ arcs) t p ≡ a.entry
  unfolding entry_at
  entry_here a arcs s = rw (eq-eqb _ _ s.0, eq-eqb _ _ s.1)

  entry-later : (a : NetArc) (arcs : List NetArc) → ¬ StandsAt a t p → entry_at (a ∷ arcs) t p ≡ entry_at arcs t p
  unfolding entry_at
  entry-later a arcs h = go (eqb a.mode.0 t.0) (eqb a.pair.0 p) refl refl
    where
      go : (x y : Bool) → eqb a.mode.0 t.0 ≡ x → eqb a.pair.0 p ≡ y
          → cond (stands a t p) a.entry (entry_at arcs t p) ≡ entry_at arcs t p
      go true true d e = absurd (h (eqb-true _ _ d, eqb-true _ _ e))
      go true false d e = rw (d, e)
      go false y d e = rw d

  -- the first arc that stands there writes the entry
  pub entry_first : (arcs : List NetArc) (k : ℕ) → k < length arcs → StandsAt (arc_no arcs k) t p
      → ((j : ℕ) → j < k → ¬ StandsAt (arc_no arcs j) t p) → entry_at arcs t p ≡ (arc_no arcs k).entry
  entry_first [] k h s before = absurd (not-suc-le-zero h)
  entry_first (a ∷ arcs) zero h s before = entry_here a arcs s
  entry_first (a ∷ arcs) (suc k) h s before =
      entry-later a arcs (before 0 (omega arith)) ∙ entry_first arcs k (omega arith) s (λ j l. before (suc j) (omega arith))

  -- of rising arcs no other stands there
  pub entry-written : (arcs : List NetArc) → Rising arcs → (k : ℕ) → k < length arcs → StandsAt (arc_no arcs k) t p
      → entry_at arcs t p ≡ (arc_no arcs k).entry
  entry-written arcs rising k h s =
      entry_first arcs k h s (λ j l. rises-apart (arc_no arcs j) (arc_no arcs k) t p (rises-all arcs rising j k l h) s)

  -- "Where no arc is written, Pre = Post = 0 and I is unbounded."
  pub entry-unwritten : (arcs : List NetArc) → ((k : ℕ) → k < length arcs → ¬ StandsAt (arc_no arcs k) t p) → entry_at arcs t p ≡ no_arc
  unfolding entry_at
  entry-unwritten [] nowhere = refl
  entry-unwritten (a ∷ arcs) nowhere =
      entry-later a arcs (nowhere 0 (omega arith)) ∙ entry-unwritten arcs (λ k l. nowhere (suc k) (omega arith))
