-- Document 01, "Sheets": the bytes of a movement sheet.
use Rattle.std.specs.Prelude.{ℕ, ◌+◌, ◌*◌, length}
use mathlib.Core.List.{List, ◌∷◌, ◌++◌, flat_map}
use Rattle.model.specs.declared.Mode.{Mode}
use Rattle.sheets.specs.written.Written.{bytes16, bytes32}

-- "Mode numbers, 2 bytes each"
abbrev pub listed_bytes : Mode → List ℕ
listed_bytes t = bytes16 t.0

-- "A sheet is a 4-byte length L (the bytes after it), a version byte 1, then its fields"
unfoldable pub movement_sheet : List Mode → List ℕ
movement_sheet modes = bytes32 (1 + 2 * length modes) ++ (1 ∷ flat_map listed_bytes modes)
