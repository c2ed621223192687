-- A net sheet's refusals before its arcs, "the fields left to right": the counts, then pair by pair K and the first marking.
use Rattle.std.specs.Prelude.{ℕ, ◌+◌, List, ltb}
use Rattle.std.proofs.Math.Option.{Option}
use Rattle.model.specs.declared.Thing.TheVariants.{Net}
use Rattle.model.specs.declared.Fault.TheVariants.{CountOutside, StartAboveCapacity}
use Rattle.model.specs.declared.Refusal.{Refusal}
use Rattle.model.specs.First.{◌▸◌, first, only_if}
use Rattle.model.specs.Numbers.{above}
use Rattle.heads.specs.Bytes.{u32_at}
use Rattle.heads.specs.Layout.{count_at, total_of, places_at, transitions_at, colours_at, place_count, transition_count, modes_at, capacity_at, start_at}
use Rattle.heads.specs.Checks.{missing, count_refusal}
use Rattle.model.specs.Refusals.{wrong}
use Rattle.fields.specs.Numbers.{bound, number_refusal, bound_refusal}

-- the i-th of the counts of 1..64 that stand from `start` on; 4: "or the running total passes 256"
unfoldable pub running_refusal : List ℕ → ℕ → ℕ → Option Refusal
running_refusal s start i =
    count_refusal Net s (count_at start i) 1 64
    ▸ only_if (ltb 256 (total_of s start (i + 1))) (wrong Net (CountOutside (count_at start i)))

-- the pair that stands at `at`: K, then the first marking; "For the first marking 5 comes before 9"
unfoldable pub capacity_refusal : List ℕ → ℕ → Option Refusal
capacity_refusal s at = missing Net s (capacity_at at) 4 ▸ bound_refusal s (capacity_at at)

unfoldable pub start_refusal : List ℕ → ℕ → Option Refusal
start_refusal s at =
    missing Net s (start_at at) 4
    ▸ number_refusal s (start_at at)
    ▸ only_if (above (u32_at s (start_at at)) (bound (u32_at s (capacity_at at)))) (wrong Net (StartAboveCapacity (start_at at)))

unfoldable pub pair_refusal : List ℕ → ℕ → Option Refusal
pair_refusal s at = capacity_refusal s at ▸ start_refusal s at

unfoldable pub each_count : List ℕ → Option Refusal
each_count s = first (place_count s) (running_refusal s (colours_at s)) ▸ first (transition_count s) (running_refusal s (modes_at s))

unfoldable pub count_fields : List ℕ → Option Refusal
count_fields s = count_refusal Net s (places_at s) 1 64 ▸ count_refusal Net s (transitions_at s) 0 64 ▸ each_count s
