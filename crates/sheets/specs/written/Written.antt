-- Document 01, "Sheets", and document 02, P9: the bytes of a net's sheet, field by field, in each version.
use Rattle.std.specs.Prelude.{ℕ, ◌+◌, ◌/◌, ◌%◌, eqb, length}
use mathlib.Core.List.{List, [], ◌∷◌, ◌++◌, flatten, flat_map}
use Rattle.model.specs.declared.Version.{Version}
use Rattle.model.specs.declared.Version.TheVariants.{One, Two}
use Rattle.model.specs.Numbers.{ℕ∞, fin, ∞}
use Rattle.model.specs.Nets.{NetArc, PNet, rule_number, pairs, modes, K, count}
use Rattle.model.specs.Lists.{joined, list_if}
use Rattle.fields.specs.Numbers.{unbounded}

-- "all big-endian": a number in two bytes, and in four
unfoldable pub bytes16 : ℕ → List ℕ
bytes16 n = n / 256 % 256 ∷ n % 256 ∷ []

unfoldable pub bytes32 : ℕ → List ℕ
bytes32 n = bytes16 (n / 65536) ++ bytes16 (n % 65536)

-- "The value 4,294,967,295 means unbounded"
abbrev pub bound_number : ℕ∞ → ℕ
bound_number (fin n) = n
bound_number ∞ = unbounded

-- "for each pair K and the first marking (4 bytes each)"
unfoldable pub pair_bytes : ℕ∞ → ℕ → List ℕ
pair_bytes k m = bytes32 (bound_number k) ++ bytes32 m

-- the 14 bytes of an arc that both versions have: "pair (2), Pre, Post, I (4 each)"
unfoldable pub tail_bytes : NetArc → List ℕ
tail_bytes a =
    flatten
    (bytes16 a.pair.0
    ∷ bytes32 a.entry.pre
    ∷ bytes32 a.entry.post
    ∷ bytes32 (bound_number a.entry.inhibitor)
    ∷ [])

-- "An arc is mode (2 bytes), pair (2), .., 16 bytes."; in version 2 "of 14 bytes without the mode"
unfoldable pub mode_bytes : Version → ℕ → List ℕ
mode_bytes One t = bytes16 t
mode_bytes Two t = []

unfoldable pub arc_bytes : Version → NetArc → List ℕ
arc_bytes v a = mode_bytes v a.mode.0 ++ tail_bytes a

-- the version byte of each
abbrev pub version_number : Version → ℕ
version_number One = 1
version_number Two = 2

-- "a version byte 1"; "In version 2 a rule byte .. follows the version."
unfoldable pub version_bytes : Version → ℕ → List ℕ
version_bytes One rule = 1 ∷ []
version_bytes Two rule = 2 ∷ rule ∷ []

-- "A sheet is a 4-byte length L (the bytes after it), a version byte .., then its fields"
unfoldable pub head_bytes : Version → ℕ → ℕ → List ℕ
head_bytes v rule l = bytes32 l ++ version_bytes v rule

-- "for each pair", in the order of their numbers
unfoldable pub pairs_bytes : PNet → List ℕ
pairs_bytes net = joined (pairs net) (λ p. pair_bytes (K net p) (count net.start p))

-- the arcs of a mode, in their order
unfoldable pub of_mode : List NetArc → ℕ → List NetArc
of_mode [] t = []
of_mode (a ∷ arcs) t = list_if (eqb a.mode.0 t) a ++ of_mode arcs t

-- arcs are counted before all of them, or before those of each mode
unfoldable pub total_bytes : Version → ℕ → List ℕ
total_bytes One n = bytes16 n
total_bytes Two n = []

unfoldable pub own_bytes : Version → ℕ → List ℕ
own_bytes One n = []
own_bytes Two n = bytes16 n

-- the arcs of one mode
abbrev pub group_bytes : Version → List NetArc → List ℕ
group_bytes v arcs = own_bytes v (length arcs) ++ flat_map (arc_bytes v) arcs

-- "arc count (2 bytes ..); the arcs"; in version 2 "for each mode, a 2-byte arc count and that many arcs"
unfoldable pub section_bytes : Version → PNet → List ℕ
section_bytes One net = total_bytes One (length net.arcs) ++ flat_map (arc_bytes One) net.arcs
section_bytes Two net = joined (modes net) (λ t. group_bytes Two (of_mode net.arcs t))

module _ (v : Version) (net : PNet) where
  -- "Place count ..; transition count ..; colours of each place (2 bytes each ..); modes of each transition (2 bytes each ..); for each pair K and the
  -- first marking ..", then the arcs
  abbrev pub fields_of : List (List ℕ)
  fields_of =
      bytes16 (length net.colours)
      ∷ bytes16 (length net.modes_of)
      ∷ flat_map bytes16 net.colours
      ∷ flat_map bytes16 net.modes_of
      ∷ pairs_bytes net
      ∷ section_bytes v net
      ∷ []

  -- L: the version byte, in version 2 the rule byte, and the fields
  abbrev pub length_of : ℕ
  length_of = length (version_bytes v (rule_number net.rule)) + length (flatten fields_of)

  unfoldable pub sheet_of : List ℕ
  sheet_of = head_bytes v (rule_number net.rule) length_of ++ flatten fields_of
