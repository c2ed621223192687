-- The damaged bytes of a movement sheet (document 02, P11): what is refused of them, and which modes of them are considered.
use Rattle.std.specs.Prelude.{ℕ, ◌-◌, ◌/◌, min, not, List, ltb, eqb, length}
use Rattle.std.proofs.Math.Option.{Option}
use Rattle.model.specs.declared.Mode.{Mode}
use Rattle.model.specs.declared.Thing.TheVariants.{Movements}
use Rattle.model.specs.declared.Fault.TheVariants.{CutShort, WrongLength, WrongVersion}
use Rattle.model.specs.declared.Refusal.{Refusal}
use Rattle.model.specs.First.{◌▸◌, only_if}
use Rattle.model.specs.Lists.{table}
use Rattle.model.specs.Nets.{mode_no}
use Rattle.model.specs.Refusals.{wrong}
use Rattle.heads.specs.Bytes.{u16_at}
use Rattle.heads.specs.Layout.{body_length, sheet_end, version, movements_at, movement_at}
use Rattle.sheets.specs.lists.Movements.{most_movements}

-- "1 for fewer than 5 bytes, 3 for L = 0, 2"
unfoldable pub damaged_refusal : List ℕ → Option Refusal
damaged_refusal s =
    only_if (ltb (length s) 5) (wrong Movements CutShort)
    ▸ only_if (eqb (body_length s) 0) (wrong Movements (WrongLength 0))
    ▸ only_if (not (eqb (version s) 1)) (wrong Movements (WrongVersion 4))

-- "ignores bytes past the declared length, uses what is there when the length claims more": where the modes end
abbrev pub modes_end : List ℕ → ℕ
modes_end s = min (sheet_end s) (length s)

-- "drops a lone last byte, and considers at most 8,192 modes": how many, and which
unfoldable pub considered : List ℕ → ℕ
considered s = min most_movements ((modes_end s - movements_at) / 2)

unfoldable pub modes_in : List ℕ → List Mode
modes_in s = table (considered s) (λ k. mode_no (u16_at s (movement_at k)))
