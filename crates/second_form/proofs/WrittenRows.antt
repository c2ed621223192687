-- Arcs that are written from rows, blanks left out: they read back as these rows, and rise.
use Prim.Native.Nat.{ℕ, zero, suc, ◌<◌}
use mathlib.Core.Path.{◌≡◌, refl, sym, ◌∙◌, ap}
use mathlib.Core.Bool.{Bool, true, false, not, ◌&&◌, and-false, true≢false, false≢true}
use mathlib.Core.List.{List, [], ◌∷◌, ◌++◌, append_assoc, append-nil}
use mathlib.Core.Logic.{inl, inr, ⊎_elim, ◌≢◌}
use lib.Dec.{eqb}
use borrow.Author.Tests.{eqb-true, ne_eqb, eq-eqb}
use native.Mathlib.Omega.{arith}
use native.Mathlib.Nat.{eq-or-lt_of_le, le_of_suc-le-suc, not-suc-le-zero}
use Rattle.model.specs.declared.Mode.{Mode}
use Rattle.model.specs.Numbers.{ℕ∞, fin, ∞}
use Rattle.model.specs.Rows.{Entry, no_arc, Row}
use Rattle.model.specs.Nets.{NetArc, pair_no, mode_no, entry_at}
use Rattle.model.specs.WellFormed.{Blank}
use Rattle.second_form.specs.Complement.{finite, blank, written, arcs_of}
use Rattle.model.specs.Lists.{joined, list_if}
use Rattle.model.proofs.Both.{and_both}
use Rattle.movement.proofs.Each.{Each, each-joined, Sorted, sorted-joined}

pub blank-is : (e : Entry) → blank e ≡ true → e ≡ no_arc
blank-is e d =
    let both = and_both (eqb e.pre 0 && eqb e.post 0) (not (finite e.inhibitor)) d in
    let numbers = and_both (eqb e.pre 0) (eqb e.post 0) both.0 in
    λ j.
    record { pre = eqb-true e.pre 0 numbers.0 j; post = eqb-true e.post 0 numbers.1 j; inhibitor = unbounded e.inhibitor both.1 j }
  where
    unbounded : (i : ℕ∞) → not (finite i) ≡ true → i ≡ ∞
    unbounded (fin i) h = absurd (false≢true h)
    unbounded ∞ h = refl

pub not_blank_lem : (e : Entry) → blank e ≡ false → ¬ Blank e
not_blank_lem e d b = true≢false (rw (b.pre, b.post, b.inhibitor) at d)

-- nothing of xs stands at t and p
abbrev Elsewhere : List NetArc → Mode → ℕ → Type 0
Elsewhere xs t p = (ys : List NetArc) → entry_at (xs ++ ys) t p ≡ entry_at ys t p

module _ (t : Mode) (p : ℕ) where
  entry-under : (xs ys zs : List NetArc) → entry_at ys t p ≡ entry_at zs t p → entry_at (xs ++ ys) t p ≡ entry_at (xs ++ zs) t p
  unfolding entry_at
  entry-under [] ys zs e = e
  entry-under (a ∷ xs) ys zs e = rw (entry-under xs ys zs e)

  elsewhere-joined : (n : ℕ) (f : ℕ → List NetArc) → ((i : ℕ) → i < n → Elsewhere (f i) t p) → Elsewhere (joined n f) t p
  unfolding joined
  elsewhere-joined zero f h ys = refl
  elsewhere-joined (suc n) f h ys =
      rw append_assoc (elsewhere-joined n f (λ i l. h i (omega arith)) (f n ++ ys) ∙ h n (omega arith) ys)

  -- the one part that may stand at t and p is looked up
  entry-joined : (n i : ℕ) (f : ℕ → List NetArc) → i < n → ((j : ℕ) → j < n → j ≢ i → Elsewhere (f j) t p)
      → (ys : List NetArc) → entry_at (joined n f ++ ys) t p ≡ entry_at (f i ++ ys) t p
  unfolding joined
  entry-joined zero i f h out ys = absurd (not-suc-le-zero h)
  entry-joined (suc n) i f h out ys =
      rw append_assoc
      (⊎_elim (λ (q : i ≡ n). elsewhere-joined n f (λ j l. out j (omega arith) (omega arith)) (f n ++ ys) ∙ rw q)
      (λ (l : i < n).
      entry-joined n i f l (λ j b d. out j (omega arith) d) (f n ++ ys)
      ∙ entry-under (f i) (f n ++ ys) ys (out n (omega arith) (omega arith) ys))
      (eq-or-lt_of_le (le_of_suc-le-suc h)))

  elsewhere-written : (u : Mode) (q : ℕ) (e : Entry) → (eqb u.0 t.0 && eqb q p) ≡ false → Elsewhere (written u q e) t p
  unfolding entry_at
  elsewhere-written u q e d ys = go (not (blank e))
    where
      go : (b : Bool) → entry_at (list_if b (record { mode = u; pair = pair_no q; entry = e }) ++ ys) t p ≡ entry_at ys t p
      go true = rw d
      go false = refl

  written-here : (e : Entry) → entry_at (written t p e) t p ≡ e
  unfolding entry_at
  written-here e = go (blank e) refl
    where
      go : (b : Bool) → blank e ≡ b → entry_at (list_if (not b) (record { mode = t; pair = pair_no p; entry = e })) t p ≡ e
      go true d = sym (blank-is e d)
      go false d = rw (eq-eqb t.0 t.0 refl, eq-eqb p p refl)

pub written_row : (m n : ℕ) (rows : Mode → Row) (t : Mode) (p : ℕ) → t.0 < m → p < n → entry_at (arcs_of m n rows) t p ≡ rows t p
unfolding arcs_of
written_row m n rows t p h l =
    sym (ap (λ xs. entry_at xs t p) (append-nil (joined m (λ u. joined n (λ q. written (mode_no u) q (rows (mode_no u) q))))))
    ∙ entry-joined t p m t.0 (λ u. joined n (λ q. written (mode_no u) q (rows (mode_no u) q))) h
    (λ u b d. elsewhere-joined t p n _ (λ q c. elsewhere-written t p (mode_no u) q (rows (mode_no u) q) (rw (ne_eqb u t.0 d)))) []
    ∙ entry-joined t p n p (λ q. written t q (rows t q)) l
    (λ q b d. elsewhere-written t p t q (rows t q) (rw (ne_eqb q p d) (and-false (eqb t.0 t.0)))) []
    ∙ ap (λ xs. entry_at xs t p) (append-nil (written t p (rows t p)))
    ∙ written-here t p (rows t p)

each-written : (P : NetArc → Type 0) (t : Mode) (p : ℕ) (e : Entry) → (blank e ≡ false → P (record { mode = t; pair = pair_no p; entry = e }))
    → Each P (written t p e)
each-written P t p e h = go (blank e) refl
  where
    go : (b : Bool) → blank e ≡ b → Each P (list_if (not b) (record { mode = t; pair = pair_no p; entry = e }))
    go true d = tt
    go false d = (h d, tt)

-- what holds of each arc that is written, blanks aside
pub each_row : (P : NetArc → Type 0) (m n : ℕ) (rows : Mode → Row)
    → ((t p : ℕ) → t < m → p < n → blank (rows (mode_no t) p) ≡ false → P (record { mode = mode_no t; pair = pair_no p; entry = rows (mode_no t) p }))
    → Each P (arcs_of m n rows)
unfolding arcs_of
each_row P m n rows h =
    each-joined P m _ (λ t l. each-joined P n _ (λ p g. each-written P (mode_no t) p (rows (mode_no t) p) (h t p l g)))

pub sorted-rows : (m n : ℕ) (rows : Mode → Row) → Sorted (arcs_of m n rows)
unfolding arcs_of
sorted-rows m n rows =
    sorted-joined m (λ t. joined n (at t))
    (λ t h.
    sorted-joined n (at t) (λ p l. one (not (blank (rows (mode_no t) p))) _) (λ p q l g. each_at _ t p (λ _. each_at _ t q (λ _. inr (refl, l)))))
    (λ t u l g. each-joined _ n (at t) (λ p h. each_at _ t p (λ _. each-joined _ n (at u) (λ q b. each_at _ u q (λ _. inl l)))))
  where
    at : ℕ → ℕ → List NetArc
    at t p = written (mode_no t) p (rows (mode_no t) p)

    each_at : (P : NetArc → Type 0) (t p : ℕ)
        → (blank (rows (mode_no t) p) ≡ false → P (record { mode = mode_no t; pair = pair_no p; entry = rows (mode_no t) p })) → Each P (at t p)
    each_at P t p = each-written P (mode_no t) p (rows (mode_no t) p)

    one : (b : Bool) (a : NetArc) → Sorted (list_if b a)
    one true a = (tt, tt)
    one false a = tt
