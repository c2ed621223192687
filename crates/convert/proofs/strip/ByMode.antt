-- The arcs of a net with a transition appended, mode by mode as a sheet has them: old modes have theirs, and new mode n has one.
use Prim.Native.Nat.{ℕ, zero, suc, ◌+◌, ◌≤◌, ◌<◌}
use mathlib.Core.Path.{◌≡◌, refl, ◌∙◌}
use mathlib.Core.List.{[], ◌∷◌, append-nil}
use mathlib.Core.Logic.{⊎_elim}
use native.Mathlib.Omega.{arith}
use native.Mathlib.Nat.{eq-or-lt_of_le, le_of_suc-le-suc, not-suc-le-zero}
use Rattle.model.specs.declared.Pair.{Pair}
use Rattle.model.specs.Lists.{table}
use Rattle.model.specs.Nets.{PNet, modes}
use Rattle.model.specs.WellFormed.{WellFormed}
use Rattle.sheets.specs.written.Written.{of_mode}
use Rattle.sheets.proofs.written.ByMode.{of-append, of-own, of_other}
use Rattle.bare.specs.Strip.{strip_arc, strip}
use Rattle.bare.proofs.Arcs.{new_arcs, below_new, none_old, none-new}

module _ (net : PNet) (p : Pair) where
  of-new : (c n : ℕ) → n < c → of_mode (new_arcs net p c) (modes net + n) ≡ strip_arc net p n ∷ []
  unfolding table
  of-new zero n h = absurd (not-suc-le-zero h)
  of-new (suc c) n h =
      of-append (new_arcs net p c) (strip_arc net p c ∷ []) (modes net + n)
      ∙ ⊎_elim
      (λ (e : n ≡ c). rw (e, of_other (new_arcs net p c) (modes net + c) (below_new net p c), of-own (strip_arc net p c ∷ []) (modes net + c) (refl, tt)))
      (λ (b : n < c). rw (of-new c n b, of_other (strip_arc net p c ∷ []) (modes net + n) (λ e. omega arith, tt)))
      (eq-or-lt_of_le (le_of_suc-le-suc h))

  module _ (k : ℕ) where
    pub old_of : (t : ℕ) → t < modes net → of_mode (strip net p k).arcs t ≡ of_mode net.arcs t
    unfolding strip
    old_of t h = of-append net.arcs (new_arcs net p (k + 1)) t ∙ rw (of_other (new_arcs net p (k + 1)) t (none_old net p k t h)) (append-nil (of_mode net.arcs t))

    pub new-of : WellFormed net → (n : ℕ) → n ≤ k → of_mode (strip net p k).arcs (modes net + n) ≡ strip_arc net p n ∷ []
    unfolding strip
    new-of well n h =
        of-append net.arcs (new_arcs net p (k + 1)) (modes net + n) ∙ rw (of_other net.arcs (modes net + n) (none-new net p k well n)) (of-new (k + 1) n (omega arith))
