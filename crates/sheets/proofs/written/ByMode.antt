-- Arcs that rise are those of mode 0, then those of mode 1, ..
use Prim.Native.Nat.{ℕ, zero, suc, ◌≤◌, ◌<◌}
use mathlib.Core.Path.{◌≡◌, refl, sym, ◌∙◌}
use mathlib.Core.Bool.{Bool, true, false}
use mathlib.Core.List.{List, [], ◌∷◌, ◌++◌, append_assoc, append-nil}
use mathlib.Core.Logic.{◌⊎◌, inl, inr, ⊎_elim}
use lib.Dec.{eqb, ltb}
use lib.ListN.{length}
use native.Mathlib.Omega.{arith}
use native.Mathlib.Nat.{eq-or-lt_of_le, le_of_suc-le-suc, not-suc-le-zero}
use borrow.Author.Tests.{eqb-true, eq-eqb, ne_eqb, lt-ltb, le-ltb}
use Rattle.model.specs.Nets.{NetArc, PNet, modes, arc_no}
use Rattle.model.specs.WellFormed.{Rises, WellFormed}
use Rattle.model.specs.Lists.{joined, list_if}
use Rattle.model.proofs.First.{below_or}
use Rattle.movement.proofs.Nets.{Rising, rises-all}
use Rattle.movement.proofs.Each.{Each, Sorted, at_each}
use Rattle.sheets.proofs.GroupArcs.{all-sorted}
use Rattle.sheets.specs.written.Written.{of_mode}
use Rattle.sheets.proofs.written.SheetLength.{ByMode}

unfoldable below : List NetArc → ℕ → List NetArc
below [] n = []
below (a ∷ arcs) n = list_if (ltb a.mode.0 n) a ++ below arcs n

none_below : (n : ℕ) (arcs : List NetArc) → Each (λ a. n ≤ a.mode.0) arcs → below arcs n ≡ []
unfolding below
none_below n [] h = refl
none_below n (a ∷ arcs) h = rw (le-ltb a.mode.0 n h.0, none_below n arcs h.1)

none_of : (n : ℕ) (arcs : List NetArc) → Each (λ a. n < a.mode.0) arcs → of_mode arcs n ≡ []
unfolding of_mode
none_of n [] h = refl
none_of n (a ∷ arcs) h = rw (ne_eqb a.mode.0 n (omega (arith, h.0)), none_of n arcs h.1)

weaken : (P Q : NetArc → Type 0) (arcs : List NetArc) → ((a : NetArc) → P a → Q a) → Each P arcs → Each Q arcs
weaken P Q [] f h = tt
weaken P Q (a ∷ arcs) f h = (f a h.0, weaken P Q arcs f h.1)

mode-up : (a b : NetArc) → Rises a b → a.mode.0 ≤ b.mode.0
mode-up a b (inl h) = omega arith
mode-up a b (inr h) = omega arith

below_next : (n : ℕ) (arcs : List NetArc) → Sorted arcs → below arcs (suc n) ≡ below arcs n ++ of_mode arcs n
unfolding of_mode below
below_next n [] s = refl
below_next n (a ∷ arcs) s = go (below_next n arcs s.1) (below_or a.mode.0 n)
  where
    up : (m : ℕ) → m ≤ a.mode.0 → Each (λ b. m ≤ b.mode.0) arcs
    up m h = weaken (Rises a) (λ b. m ≤ b.mode.0) arcs (λ b r. omega (arith, mode-up a b r)) s.0

    equal : below arcs (suc n) ≡ below arcs n ++ of_mode arcs n → (t : Bool) → eqb a.mode.0 n ≡ t → n ≤ a.mode.0 → below (a ∷ arcs) (suc n) ≡ below (a ∷ arcs) n ++ of_mode (a ∷ arcs) n
    equal ih true e h =
        let q = eqb-true a.mode.0 n e in
        rw (lt-ltb a.mode.0 (suc n) (omega arith), le-ltb a.mode.0 n h, e, ih, none_below n arcs (up n h))
    equal ih false e h =
        let l : n < a.mode.0 = ⊎_elim (λ (b : n < a.mode.0). b) (λ (b : a.mode.0 ≤ n). let q : a.mode.0 ≡ n = omega arith in let z : true ≡ false = sym (eq-eqb a.mode.0 n q) ∙ e in let y : ◌≡◌ {A = ℕ} 0 1 = cc in absurd (omega arith)) (below_or n a.mode.0) in
        rw (le-ltb a.mode.0 (suc n) l, le-ltb a.mode.0 n h, e, ih)

    go : below arcs (suc n) ≡ below arcs n ++ of_mode arcs n → (a.mode.0 < n) ⊎ (n ≤ a.mode.0) → below (a ∷ arcs) (suc n) ≡ below (a ∷ arcs) n ++ of_mode (a ∷ arcs) n
    go ih (inl l) = rw (lt-ltb a.mode.0 (suc n) (omega arith), lt-ltb a.mode.0 n l, ne_eqb a.mode.0 n (omega arith), ih)
    go ih (inr h) = equal ih (eqb a.mode.0 n) refl h

below_none : (arcs : List NetArc) → below arcs 0 ≡ []
unfolding below
below_none [] = refl
below_none (a ∷ arcs) = rw (le-ltb a.mode.0 0 (omega arith), below_none arcs)

below_all : (n : ℕ) (arcs : List NetArc) → Each (λ a. a.mode.0 < n) arcs → below arcs n ≡ arcs
unfolding below
below_all n [] h = refl
below_all n (a ∷ arcs) h = rw (lt-ltb a.mode.0 n h.0, below_all n arcs h.1)

joined-below : (n : ℕ) (arcs : List NetArc) → Sorted arcs → joined n (of_mode arcs) ≡ below arcs n
unfolding joined
joined-below zero arcs s = sym (below_none arcs)
joined-below (suc n) arcs s = rw (joined-below n arcs s) (sym (below_next n arcs s))

joined-all : (n : ℕ) (arcs : List NetArc) → Rising arcs → Each (λ a. a.mode.0 < n) arcs → joined n (of_mode arcs) ≡ arcs
joined-all n arcs r h = joined-below n arcs (all-sorted arcs (rises-all arcs r)) ∙ below_all n arcs h

pub by_mode : (net : PNet) → WellFormed net → ByMode net
by_mode net well =
    record {
      is = joined-all (modes net) net.arcs well.rising (at_each (λ a. a.mode.0 < modes net) (arc_no [] 0) net.arcs (λ k h. (well.each_arc k h).mode));
    }

-- arcs joined from those of each mode: the arcs of a mode are its part
pub of-append : (xs ys : List NetArc) (t : ℕ) → of_mode (xs ++ ys) t ≡ of_mode xs t ++ of_mode ys t
unfolding of_mode
of-append [] ys t = refl
of-append (a ∷ xs) ys t = rw (of-append xs ys t, append_assoc)

pub of-own : (xs : List NetArc) (t : ℕ) → Each (λ a. a.mode.0 ≡ t) xs → of_mode xs t ≡ xs
unfolding of_mode
of-own [] t h = refl
of-own (a ∷ xs) t h = rw (eq-eqb a.mode.0 t h.0, of-own xs t h.1)

pub of_other : (xs : List NetArc) (t : ℕ) → Each (λ a. ¬ (a.mode.0 ≡ t)) xs → of_mode xs t ≡ []
unfolding of_mode
of_other [] t h = refl
of_other (a ∷ xs) t h = rw (ne_eqb a.mode.0 t h.0, of_other xs t h.1)

module _ (f : ℕ → List NetArc) (own : (u : ℕ) → Each (λ a. a.mode.0 ≡ u) (f u)) where
  others : (u t : ℕ) → ¬ (u ≡ t) → of_mode (f u) t ≡ []
  others u t d = of_other (f u) t (go (f u) (own u))
    where
      go : (xs : List NetArc) → Each (λ a. a.mode.0 ≡ u) xs → Each (λ a. ¬ (a.mode.0 ≡ t)) xs
      go [] h = tt
      go (a ∷ xs) h = (λ e. d (sym h.0 ∙ e), go xs h.1)

  of_none : (n t : ℕ) → n ≤ t → of_mode (joined n f) t ≡ []
  unfolding joined of_mode
  of_none zero t l = refl
  of_none (suc n) t l = of-append (joined n f) (f n) t ∙ rw (of_none n t (omega arith), others n t (λ e. omega arith))

  pub of-joined : (n t : ℕ) → t < n → of_mode (joined n f) t ≡ f t
  unfolding joined
  of-joined zero t l = absurd (not-suc-le-zero l)
  of-joined (suc n) t l =
      of-append (joined n f) (f n) t
      ∙ ⊎_elim (λ (q : t ≡ n). rw (q, of_none n n (omega arith), of-own (f n) n (own n)))
      (λ (b : t < n). rw (of-joined n t b, others n t (λ e. omega arith)) (append-nil (f t)))
      (eq-or-lt_of_le (le_of_suc-le-suc l))

-- what holds of each of a list's arcs, and how many there are
pub each_of : (P : NetArc → Type 0) (xs : List NetArc) (t : ℕ) → Each P xs → Each (λ a. P a × (a.mode.0 ≡ t)) (of_mode xs t)
unfolding of_mode
each_of P [] t h = tt
each_of P (a ∷ xs) t h = go (eqb a.mode.0 t) refl (each_of P xs t h.1)
  where
    go : (b : Bool) → eqb a.mode.0 t ≡ b → Each (λ a. P a × (a.mode.0 ≡ t)) (of_mode xs t)
        → Each (λ a. P a × (a.mode.0 ≡ t)) (list_if b a ++ of_mode xs t)
    go true e r = ((h.0, eqb-true a.mode.0 t e), r)
    go false e r = r

pub few-of : (xs : List NetArc) (t : ℕ) → length (of_mode xs t) ≤ length xs
unfolding of_mode
few-of [] t = omega arith
few-of (a ∷ xs) t = go (eqb a.mode.0 t) (few-of xs t)
  where
    go : (b : Bool) → length (of_mode xs t) ≤ length xs → length (list_if b a ++ of_mode xs t) ≤ suc (length xs)
    go true r = omega arith
    go false r = omega arith
