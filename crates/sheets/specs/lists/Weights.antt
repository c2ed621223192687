-- A weight sheet's refusals, for a reader that is given the net's pair count: "In a weight sheet 17 comes before the weights."
use Rattle.std.specs.Prelude.{ℕ, not, List, ltb, eqb, ℤ, nat_abs}
use Rattle.std.proofs.Math.Option.{Option}
use Rattle.std.specs.Int.{w32}
use Rattle.std.proofs.Common.{to_z}
use Rattle.model.specs.declared.Thing.TheVariants.{Weights}
use Rattle.model.specs.declared.Fault.TheVariants.{NumberOutside, NotOneEach}
use Rattle.model.specs.declared.Refusal.{Refusal}
use Rattle.model.specs.First.{◌▸◌, first, only_if}
use Rattle.model.specs.Numbers.{limit}
use Rattle.heads.specs.Bytes.{u32_at}
use Rattle.heads.specs.Layout.{weight_count, weight_count_at, weight_at}
use Rattle.heads.specs.Checks.{head_refusal, missing, left_over}
use Rattle.model.specs.Refusals.{wrong}

-- a signed number of 4 bytes, in two's complement
unfoldable pub signed : ℕ → ℤ
signed x = to_z w32 x

-- 5: "A weight may be negative, from -1000000 to 1000000": its size is at most 1,000,000
unfoldable pub weight_refusal : List ℕ → ℕ → Option Refusal
weight_refusal s at =
    missing Weights s at 4
    ▸ only_if (ltb limit (nat_abs (signed (u32_at s at)))) (wrong Weights (NumberOutside at))

unfoldable pub weight_fields : ℕ → List ℕ → Option Refusal
weight_fields pairs s =
    missing Weights s weight_count_at 2
    ▸ only_if (not (eqb (weight_count s) pairs)) (wrong Weights (NotOneEach weight_count_at))
    ▸ first (weight_count s) (λ p. weight_refusal s (weight_at p))
    ▸ left_over Weights s (weight_at (weight_count s))

unfoldable pub weights_refusal : ℕ → List ℕ → Option Refusal
weights_refusal pairs s = head_refusal Weights s ▸ weight_fields pairs s
