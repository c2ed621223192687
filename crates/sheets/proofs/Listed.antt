-- What accepted movement sheets and weight sheets list, and where.
use Prim.Native.Nat.{ℕ, ◌+◌, ◌≤◌, ◌<◌}
use mathlib.Core.Path.{◌≡◌, refl, ◌∙◌, ap}
use mathlib.Core.List.{List}
use mathlib.Core.Option.{none}
use lib.IntN.{nat_abs, pos}
use lib.ListN.{length, get_or}
use native.Mathlib.Omega.{arith}
use borrow.Author.Tests.{ltb-false, eqb-true, not-false}
use Rattle.model.specs.declared.Mode.{Mode}
use Rattle.model.specs.declared.Thing.TheVariants.{Movements, Weights}
use Rattle.model.specs.Numbers.{limit}
use Rattle.model.specs.Nets.{mode_no}
use Rattle.movement.specs.Figures.{weight}
use Rattle.model.proofs.First.{left-none, right-none, first-each, only_if_none}
use Rattle.model.proofs.Tables.{table-length, table_at}
use Rattle.heads.specs.Bytes.{u32_at}
use Rattle.heads.specs.Layout.{sheet_end, movements_at, movement_count, weight_count, weight_count_at, weight_at}
use Rattle.heads.specs.Checks.{head_refusal, missing}
use Rattle.heads.specs.Held.{Headed}
use Rattle.sheets.specs.lists.Movements.{movement_fields, movements_refusal}
use Rattle.sheets.specs.lists.Weights.{signed, weight_refusal, weight_fields, weights_refusal}
use Rattle.sheets.specs.Decoded.{movements_of, weights_of}
use Rattle.sheets.specs.Listed.{mode_at, modes_from, ModesStand}
use Rattle.sheets.specs.Accepted.{AcceptedMovements, AcceptedWeights}
use Rattle.heads.proofs.Heads.{head-holds}

pub modes_from_length : (s : List ℕ) (start n : ℕ) → length (modes_from s start n) ≡ n
unfolding modes_from
modes_from_length s start n = table-length n (mode_at s start)

pub modes_from_at : (s : List ℕ) (start n : ℕ) (d : Mode) (k : ℕ) → k < n → get_or (modes_from s start n) k d ≡ mode_at s start k
unfolding modes_from
modes_from_at s start n d k h = table_at n (mode_at s start) d k h

-- a movement sheet's modes are those that stand from its first field on
pub movements-are : (s : List ℕ) → movements_of s ≡ modes_from s movements_at (movement_count s)
unfolding movements_of modes_from mode_at
movements-are s = refl

pub movements-length : (s : List ℕ) → length (movements_of s) ≡ movement_count s
movements-length s = ap length (movements-are s) ∙ modes_from_length s movements_at (movement_count s)

pub movement-is : (s : List ℕ) (k : ℕ) → k < length (movements_of s) → get_or (movements_of s) k (mode_no 0) ≡ mode_at s movements_at k
movement-is s k h = rw movements-are (modes_from_at s movements_at (movement_count s) (mode_no 0) k (rw (← movements-length s) h))

module _ (s : List ℕ) (accepted : movements_refusal s ≡ none) where
  pub movements-headed : Headed s
  unfolding movements_refusal
  movements-headed = head-holds Movements s (left-none _ _ accepted)

  pub movements_stand : ModesStand s movements_at (movement_count s)
  movements_stand = omega (arith, movements-headed)

pub movements-within : AcceptedMovements
unfolding movements_refusal movement_fields
movements-within s accepted =
    rw movements-length (ltb-false _ _ (only_if_none _ _ (right-none _ _ (right-none (head_refusal Movements s) _ accepted))))

module _ (pairs : ℕ) (s : List ℕ) (accepted : weights_refusal pairs s ≡ none) where
  pub weights-headed : Headed s
  unfolding weights_refusal
  weights-headed = head-holds Weights s (left-none _ _ accepted)

  fields-accepted : weight_fields pairs s ≡ none
  unfolding weights_refusal
  fields-accepted = right-none (head_refusal Weights s) _ accepted

  one_each_lem : weight_count s ≡ pairs
  unfolding weight_fields
  one_each_lem =
      eqb-true _ _ (not-false _ (only_if_none _ _ (left-none _ _ (right-none (missing Weights s weight_count_at 2) _ fields-accepted))))

  weight-accepted : (p : ℕ) → p < pairs → weight_refusal s (weight_at p) ≡ none
  unfolding weight_fields
  weight-accepted p h =
      first-each (weight_count s) (λ p. weight_refusal s (weight_at p))
      (left-none _ _ (right-none _ _ (right-none (missing Weights s weight_count_at 2) _ fields-accepted))) p (rw one_each_lem h)

  pub weight-there : (p : ℕ) → p < pairs → weight_at p + 4 ≤ length s
  unfolding weight_refusal
  weight-there p h =
      let inside : weight_at p + 4 ≤ sheet_end s = ltb-false _ _ (only_if_none _ _ (left-none _ _ (weight-accepted p h))) in
      omega (arith, weights-headed)

  pub weight_is : (p : ℕ) → p < pairs → weight (weights_of s) p ≡ signed (u32_at s (weight_at p))
  unfolding weights_of
  weight_is p h = table_at (weight_count s) (λ p. signed (u32_at s (weight_at p))) (pos 0) p (rw one_each_lem h)

  pub weight-within : (p : ℕ) → p < pairs → nat_abs (signed (u32_at s (weight_at p))) ≤ limit
  unfolding weight_refusal
  weight-within p h = ltb-false _ _ (only_if_none _ _ (right-none _ _ (weight-accepted p h)))

  weights-length : length (weights_of s) ≡ pairs
  unfolding weights_of
  weights-length = table-length (weight_count s) _ ∙ one_each_lem

pub weights-within : AcceptedWeights
weights-within pairs s accepted =
    (weights-length pairs s accepted, λ p h. rw (weight_is pairs s accepted p h) (weight-within pairs s accepted p h))
