-- Mode numbers that stand one after the other in a run of bytes: those of a movement sheet, or of a part of one.
-- A reader of the promises may skip this file.
use Rattle.std.specs.Prelude.{ℕ, ◌≤◌, List, length}
use Rattle.model.specs.declared.Mode.{Mode}
use Rattle.model.specs.Nets.{mode_no}
use Rattle.model.specs.Lists.{table}
use Rattle.heads.specs.Bytes.{u16_at}
use Rattle.heads.specs.Layout.{count_at}

-- "Mode numbers, 2 bytes each", from `start` on: the k-th, the first n, and room for n
unfoldable pub mode_at : List ℕ → ℕ → ℕ → Mode
mode_at s start k = mode_no (u16_at s (count_at start k))

unfoldable pub modes_from : List ℕ → ℕ → ℕ → List Mode
modes_from s start n = table n (mode_at s start)

abbrev pub ModesStand : List ℕ → ℕ → ℕ → Type 0
ModesStand s start n = count_at start n ≤ length s
