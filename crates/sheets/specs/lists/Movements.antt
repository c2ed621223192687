-- A movement sheet's refusals: "a lone last byte (3, at that byte) comes before too many movements (4, at offset 5)".
use Rattle.std.specs.Prelude.{ℕ, List, ltb}
use Rattle.std.proofs.Math.Option.{Option}
use Rattle.model.specs.declared.Thing.TheVariants.{Movements}
use Rattle.model.specs.declared.Fault.TheVariants.{CountOutside}
use Rattle.model.specs.declared.Refusal.{Refusal}
use Rattle.model.specs.First.{◌▸◌, only_if}
use Rattle.heads.specs.Layout.{movements_at, movement_at, movement_count}
use Rattle.heads.specs.Checks.{head_refusal, left_over}
use Rattle.model.specs.Refusals.{wrong}

-- "at most 8,192"
abbrev pub most_movements : ℕ
most_movements = 8192

unfoldable pub movement_fields : List ℕ → Option Refusal
movement_fields s =
    left_over Movements s (movement_at (movement_count s))
    ▸ only_if (ltb most_movements (movement_count s)) (wrong Movements (CountOutside movements_at))

unfoldable pub movements_refusal : List ℕ → Option Refusal
movements_refusal s = head_refusal Movements s ▸ movement_fields s
