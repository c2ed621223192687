-- The search over the pairs: it passes what is in step, and stops at the first excess that is not 0.
use Rattle.std.specs.Prelude.{Some, None}
use Prim.Native.Nat.{ℕ, ◌+◌, ◌^◌, ◌≤◌, ◌<◌}
use mathlib.Core.Path.{◌≡◌, refl, sym, ◌∙◌, ap}
use mathlib.Core.Bool.{Bool, true, false}
use mathlib.Core.List.{List}
use mathlib.Core.Logic.{◌≢◌}
use mathlib.Core.Option.{none}
use lib.IntN.{ℤ, pos}
use lib.Signed.{mag}
use mir.Syntax.{w64}
use mir.Val.{hbits, to_z, of_z}
use mir.Facts.{to_z-of_z, to_z_pos}
use native.Mathlib.Omega.{arith}
use Rattle.model.specs.First.{first, only_if}
use Rattle.model.specs.Nets.{PNet, pairs, pair_no, K, count}
use Rattle.both_forms.specs.Audit.{Finding, count_beside, out_of_step, excess, audited}
use Rattle.model.proofs.First.{first-at, first-end, first_more}
use Rattle.both_forms.proofs.OutOfStep.{zero_excess, excess_zero}
use Rattle.complement.specs.audit.Audits.{found}

-- a signed number is 0 where its bits are
is_zero : (z : ℤ) → mag z < 2 ^ hbits w64 → of_z w64 z ≡ 0 → z ≡ pos 0
is_zero z fits e = sym (to_z-of_z {w = w64} (record { sfits = fits })) ∙ ap (to_z w64) e ∙ to_z_pos w64 {n = 0} (omega arith)

not_zero : (z : ℤ) → (of_z w64 z ≡ 0 → ⊥) → z ≢ pos 0
not_zero z h e = h (ap (of_z w64) e ∙ refl)

-- no pair below i is out of step
abbrev pub InStepBelow : PNet → List ℕ → List ℕ → ℕ → Type 0
InStepBelow net m m' i = first {A = Finding} i (λ p. only_if (out_of_step net m m' p) (record { pair = pair_no p; excess = excess net m m' p })) ≡ none

module _ (net : PNet) (m m' : List ℕ) (i : ℕ) (below : InStepBelow net m m' i) where
  abbrev at : ℕ → Bool
  at = out_of_step net m m'

  in_step-more : excess net m m' i ≡ pos 0 → InStepBelow net m m' (i + 1)
  in_step-more e = first_more i _ below (rw (excess_zero (count m i) (count m' i) (count_beside net m m' i) (K net i) e))

  out-of-step : excess net m m' i ≢ pos 0 → at i ≡ true
  out-of-step h = go (at i) refl
    where
      go : (t : Bool) → at i ≡ t → at i ≡ true
      go true e = e
      go false e = absurd (h (zero_excess (count m i) (count m' i) (count_beside net m m' i) (K net i) e))

  finds-at : i < pairs net → excess net m m' i ≢ pos 0 → Some (pair_no i, excess net m m' i) ≡ found (audited net m m')
  unfolding audited
  finds-at h d = rw (first-at (pairs net) i _ (record { pair = pair_no i; excess = excess net m m' i }) h below (rw (out-of-step d)))

  pub finds-nothing : i ≤ pairs net → pairs net ≤ i → None ≡ found (audited net m m')
  unfolding audited
  finds-nothing h l = rw (← first-end i (pairs net) _ h l (sym below))

  -- the excess that a call has given
  module _ {r : ℤ} (fits : mag r < 2 ^ hbits w64) (is : r ≡ excess net m m' i) where
    pub passes : of_z w64 r ≡ 0 → InStepBelow net m m' (i + 1)
    passes e = in_step-more (sym is ∙ is_zero r fits e)

    pub stops : (of_z w64 r ≡ 0 → ⊥) → i < pairs net → Some (pair_no i, to_z w64 (of_z w64 r)) ≡ found (audited net m m')
    stops e h = ap (λ z. Some (pair_no i, z)) (to_z-of_z {w = w64} (record { sfits = fits }) ∙ is) ∙ finds-at h (λ z. not_zero r e (is ∙ z))
