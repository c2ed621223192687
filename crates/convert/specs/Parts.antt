-- A net's sheet in three parts: the head, what both versions have, and the arcs.
-- A reader of the promises may skip this file.
use Rattle.std.specs.Prelude.{ℕ, length}
use mathlib.Core.List.{List, ◌++◌, flat_map}
use Rattle.model.specs.declared.Version.{Version}
use Rattle.model.specs.Nets.{PNet, arc_no}
use Rattle.sheets.specs.written.Written.{bytes16, pairs_bytes, of_mode, arc_bytes, group_bytes}

-- "Place count ..; transition count ..; colours of each place ..; modes of each transition ..; for each pair K and the first marking"
unfoldable pub common_bytes : PNet → List ℕ
common_bytes net =
    bytes16 (length net.colours)
    ++ (bytes16 (length net.modes_of) ++ (flat_map bytes16 net.colours ++ (flat_map bytes16 net.modes_of ++ pairs_bytes net)))

-- the k-th arc, and those of mode t with their count where the version has it
abbrev pub arc_no_bytes : Version → PNet → ℕ → List ℕ
arc_no_bytes v net k = arc_bytes v (arc_no net.arcs k)

abbrev pub mode_group : Version → PNet → ℕ → List ℕ
mode_group v net t = group_bytes v (of_mode net.arcs t)
