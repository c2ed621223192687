-- What the accepted fields of a pair say.
use Prim.Native.Nat.{ℕ, ◌+◌, ◌≤◌}
use mathlib.Core.Path.{◌≡◌}
use mathlib.Core.Bool.{false}
use mathlib.Core.List.{List}
use mathlib.Core.Option.{none}
use borrow.Author.Tests.{ltb-false}
use Rattle.model.specs.Numbers.{above, limit}
use Rattle.model.proofs.First.{left-none, right-none, only_if_none}
use Rattle.heads.specs.Bytes.{u32_at}
use Rattle.heads.specs.Layout.{sheet_end, capacity_at, start_at}
use Rattle.fields.specs.Numbers.{bound, outside}
use Rattle.fields.specs.Fields.{capacity_refusal, start_refusal}

pub record CapacityRead (s : List ℕ) (at : ℕ) : Type 0 where
  pub there : capacity_at at + 4 ≤ sheet_end s
  pub in_range : outside (bound (u32_at s (capacity_at at))) ≡ false

pub capacity-holds : (s : List ℕ) (at : ℕ) → capacity_refusal s at ≡ none → CapacityRead s at
unfolding capacity_refusal
capacity-holds s at e =
    record { there = ltb-false _ _ (only_if_none _ _ (left-none _ _ e)); in_range = only_if_none _ _ (right-none _ _ e) }

pub record StartRead (s : List ℕ) (at : ℕ) : Type 0 where
  pub there : start_at at + 4 ≤ sheet_end s
  pub in_range : u32_at s (start_at at) ≤ limit
  pub within : above (u32_at s (start_at at)) (bound (u32_at s (capacity_at at))) ≡ false

pub start-holds : (s : List ℕ) (at : ℕ) → start_refusal s at ≡ none → StartRead s at
unfolding start_refusal
start-holds s at e =
    let e₁ = right-none _ _ e in
    record {
      there = ltb-false _ _ (only_if_none _ _ (left-none _ _ e));
      in_range = ltb-false _ _ (only_if_none _ _ (left-none _ _ e₁));
      within = only_if_none _ _ (right-none _ _ e₁);
    }
