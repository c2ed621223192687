-- How large the complement is, which refusal 10 and the length of its sheet go by; and its sheet in three parts.
-- A reader of the promises may skip this file.
use Rattle.std.specs.Prelude.{ℕ, ◌≤◌, ◌≡◌, Bool, not, ◌&&◌, leb, ltb, length}
use mathlib.Core.List.{List, ◌++◌, flat_map}
use Rattle.std.proofs.Math.Option.{Option}
use Rattle.model.specs.declared.Thing.TheVariants.{Net}
use Rattle.model.specs.declared.Fault.TheVariants.{NoRoom}
use Rattle.model.specs.declared.Refusal.{Refusal}
use Rattle.model.specs.declared.Version.{Version}
use Rattle.model.specs.First.{◌▸◌, only_if}
use Rattle.model.specs.Nets.{PNet, rule_number, pairs}
use Rattle.second_form.specs.Complement.{complement}
use Rattle.model.specs.Refusals.{wrong}
use Rattle.sheets.specs.written.Puts.{sheet_size}
use Rattle.opened.specs.declared.shape.NetShape.{NetShape}
use Rattle.sheets.specs.written.Written.{bytes16, head_bytes, pairs_bytes, length_of}
use Rattle.complement.specs.declared.sheet.Sizes.{Sizes}

unfoldable pub sizes_of : PNet → Sizes
sizes_of net = record { places = length (complement net).colours; pairs = pairs (complement net); arcs = length (complement net).arcs }

-- the same with so many arcs
pub record SizesWith (net : PNet) (many : ℕ) (sizes : Sizes) : Type 0 where
  pub places : sizes.places ≡ length (complement net).colours
  pub pairs : sizes.pairs ≡ pairs (complement net)
  pub arcs : sizes.arcs ≡ many

-- at most twice what a sheet may hold
pub record Few (sizes : Sizes) : Type 0 where
  pub places : sizes.places ≤ 128
  pub pairs : sizes.pairs ≤ 512
  pub arcs : sizes.arcs ≤ 4096

-- "complement exceeds the sheet's limits"
abbrev pub in_limits : Sizes → Bool
in_limits sizes = leb sizes.places 64 && leb sizes.pairs 256 && leb sizes.arcs 2048

-- 10 by these numbers, where the output slice has this room
unfoldable pub sizes_refusal : NetShape → Sizes → ℕ → Option Refusal
sizes_refusal net sizes room =
    only_if (not (in_limits sizes)) (wrong Net NoRoom)
    ▸ only_if (ltb room (sheet_size net.version sizes.places net.transitions sizes.pairs net.modes sizes.arcs)) (wrong Net NoRoom)

-- "a 4-byte length L .., a version byte ..; Place count ..; transition count"
abbrev pub counts_bytes : Version → PNet → List ℕ
counts_bytes v net = head_bytes v (rule_number net.rule) (length_of v net) ++ (bytes16 (length net.colours) ++ bytes16 (length net.modes_of))

-- "colours of each place ..; modes of each transition ..; for each pair K and the first marking"
abbrev pub records_bytes : PNet → List ℕ
records_bytes net = flat_map bytes16 net.colours ++ (flat_map bytes16 net.modes_of ++ pairs_bytes net)
