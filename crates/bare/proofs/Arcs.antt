-- The arcs of a net with a transition appended: old modes have theirs, and new mode n has one.
use Prim.Native.Nat.{ℕ, zero, suc, ◌+◌, ◌≤◌, ◌<◌}
use mathlib.Core.Path.{◌≡◌, refl, ◌∙◌, ap, fun_ext}
use mathlib.Core.Bool.{cond}
use mathlib.Core.List.{List, [], ◌∷◌, ◌++◌}
use mathlib.Core.Logic.{⊎_elim}
use lib.Dec.{eqb}
use lib.ListN.{length, length-append}
use native.Mathlib.Omega.{arith}
use native.Mathlib.Nat.{eq-or-lt_of_le, le_of_suc-le-suc, not-suc-le-zero}
use borrow.Author.Tests.{eq-eqb, ne_eqb}
use Rattle.model.specs.declared.Pair.{Pair}
use Rattle.model.specs.declared.Mode.{Mode}
use Rattle.model.specs.Lists.{table}
use Rattle.model.specs.Rows.{no_arc}
use Rattle.model.specs.Nets.{NetArc, PNet, total, pairs, modes, arc_no, stands, entry_at, row}
use Rattle.model.specs.WellFormed.{WellFormed}
use Rattle.movement.proofs.Each.{Each, each_append, at_each}
use Rattle.model.proofs.Tables.{table-length}
use Rattle.bare.specs.Strip.{strip_entry, new_mode, strip_arc, strip}

-- what two lists of arcs write for a mode that one of them does not name
module _ (t : Mode) (q : ℕ) where
  abbrev Others : List NetArc → Type 0
  Others = Each (λ a. ¬ (a.mode.0 ≡ t.0))

  entry_past : (xs ys : List NetArc) → Others xs → entry_at (xs ++ ys) t q ≡ entry_at ys t q
  unfolding entry_at
  entry_past [] ys h = refl
  entry_past (a ∷ xs) ys h = rw (ne_eqb a.mode.0 t.0 h.0) (entry_past xs ys h.1)

  entry-none : (ys : List NetArc) → Others ys → entry_at ys t q ≡ no_arc
  unfolding entry_at
  entry-none [] h = refl
  entry-none (a ∷ ys) h = rw (ne_eqb a.mode.0 t.0 h.0) (entry-none ys h.1)

  entry-before : (xs ys : List NetArc) → Others ys → entry_at (xs ++ ys) t q ≡ entry_at xs t q
  unfolding entry_at
  entry-before [] ys h = entry-none ys h
  entry-before (a ∷ xs) ys h = ap (λ e. cond (stands a t q) a.entry e) (entry-before xs ys h)

module _ (net : PNet) (p : Pair) where
  -- the arcs of the first c new modes
  abbrev pub new_arcs : ℕ → List NetArc
  new_arcs c = table c (strip_arc net p)

  pub each-new : (P : NetArc → Type 0) (c : ℕ) → ((i : ℕ) → i < c → P (strip_arc net p i)) → Each P (new_arcs c)
  unfolding table
  each-new P zero h = tt
  each-new P (suc c) h = each_append P (new_arcs c) (strip_arc net p c ∷ []) (each-new P c (λ i l. h i (omega arith))) (h c (omega arith), tt)

  -- no arc of another mode
  pub below_new : (n : ℕ) → Each (λ a. ¬ (a.mode.0 ≡ modes net + n)) (new_arcs n)
  below_new n = each-new (λ a. ¬ (a.mode.0 ≡ modes net + n)) n (λ i l e. omega arith)

  entry_new : (c n q : ℕ) → n < c → entry_at (new_arcs c) (new_mode net n) q ≡ entry_at (strip_arc net p n ∷ []) (new_mode net n) q
  unfolding table
  entry_new zero n q h = absurd (not-suc-le-zero h)
  entry_new (suc c) n q h =
      ⊎_elim (λ (e : n ≡ c). rw e (entry_past (new_mode net c) q (new_arcs c) (strip_arc net p c ∷ []) (below_new c)))
      (λ (b : n < c). entry-before (new_mode net n) q (new_arcs c) (strip_arc net p c ∷ []) (λ e. omega arith, tt) ∙ entry_new c n q b)
      (eq-or-lt_of_le (le_of_suc-le-suc h))

  module _ (k : ℕ) where
    pub none_old : (t : ℕ) → t < modes net → Each (λ a. ¬ (a.mode.0 ≡ t)) (new_arcs (k + 1))
    none_old t h = each-new (λ a. ¬ (a.mode.0 ≡ t)) (k + 1) (λ i l e. omega arith)

    -- how many there are
    pub same-pairs : pairs (strip net p k) ≡ pairs net
    unfolding strip
    same-pairs = refl

    pub transitions-many : length (strip net p k).modes_of ≡ length net.modes_of + 1
    unfolding strip
    transitions-many = length-append net.modes_of ((k + 1) ∷ [])

    pub modes-many : modes (strip net p k) ≡ modes net + (k + 1)
    unfolding strip
    modes-many = go net.modes_of
      where
        go : (counts : List ℕ) → total (counts ++ (k + 1) ∷ []) ≡ total counts + (k + 1)
        go [] = omega arith
        go (c ∷ counts) = rw (go counts) (omega arith)

    pub arcs-many : length (strip net p k).arcs ≡ length net.arcs + (k + 1)
    unfolding strip
    arcs-many = length-append net.arcs (new_arcs (k + 1)) ∙ ap (λ n. length net.arcs + n) (table-length (k + 1) (strip_arc net p))

    -- "Old modes keep their numbers and behaviour."
    pub old_row : (t : Mode) → t.0 < modes net → row (strip net p k) t ≡ row net t
    unfolding strip
    old_row t h = fun_ext (λ q. entry-before t q net.arcs (new_arcs (k + 1)) (none_old t.0 h))

    module _ (well : WellFormed net) where
      pub none-new : (n : ℕ) → Each (λ a. ¬ (a.mode.0 ≡ modes net + n)) net.arcs
      none-new n = at_each (λ a. ¬ (a.mode.0 ≡ modes net + n)) (arc_no [] 0) net.arcs (λ j l e. omega (arith, (well.each_arc j l).mode))

      pub new_row : (n q : ℕ) → n ≤ k → row (strip net p k) (new_mode net n) q ≡ cond (eqb p.0 q) (strip_entry n) no_arc
      unfolding strip entry_at
      new_row n q h =
          entry_past (new_mode net n) q net.arcs (new_arcs (k + 1)) (none-new n)
          ∙ entry_new (k + 1) n q (omega arith)
          ∙ rw (eq-eqb (modes net + n) (modes net + n) refl) refl
