-- Document 01, "Sheets", and document 02, P9: where each field stands, counted from 0 at the first byte of the sheet's length, and the number that
-- it holds.
use Rattle.std.specs.Prelude.{ℕ, zero, suc, ◌+◌, ◌-◌, ◌*◌, ◌/◌, List}
use Rattle.model.specs.declared.Version.{Version}
use Rattle.model.specs.declared.Version.TheVariants.{One, Two}
use Rattle.model.specs.Nets.{total}
use Rattle.model.specs.Lists.{table}
use Rattle.heads.specs.Bytes.{byte_at, u16_at, u32_at}
use Rattle.heads.specs.Version.{version_of}

-- "A sheet is a 4-byte length L (the bytes after it), a version byte 1, then its fields"
abbrev pub body_length : List ℕ → ℕ
body_length s = u32_at s 0

abbrev pub sheet_end : List ℕ → ℕ
sheet_end s = 4 + body_length s

abbrev pub version : List ℕ → ℕ
version s = byte_at s 4

-- counts of 2 bytes each, one after the other from `start` on: where each stands, the first n of them, and their total
abbrev pub count_at : ℕ → ℕ → ℕ
count_at start i = start + 2 * i

unfoldable pub counts : List ℕ → ℕ → ℕ → List ℕ
counts s start n = table n (λ i. u16_at s (count_at start i))

abbrev pub total_of : List ℕ → ℕ → ℕ → ℕ
total_of s start n = total (counts s start n)

-- pairs from `start` on: "for each pair K and the first marking (4 bytes each)"; the two fields of a pair that stands at `at`
abbrev pub pair_at : ℕ → ℕ → ℕ
pair_at start p = start + 8 * p

abbrev pub capacity_at : ℕ → ℕ
capacity_at at = at

abbrev pub start_at : ℕ → ℕ
start_at at = at + 4

-- "pair (2), Pre, Post, I (4 each)": the 14 bytes that an arc has in both versions, from `tail` on
abbrev pub tail_size : ℕ
tail_size = 14

abbrev pub tail_pair_at : ℕ → ℕ
tail_pair_at tail = tail

abbrev pub tail_pre_at : ℕ → ℕ
tail_pre_at tail = tail + 2

abbrev pub tail_post_at : ℕ → ℕ
tail_post_at tail = tail + 6

abbrev pub tail_inhibitor_at : ℕ → ℕ
tail_inhibitor_at tail = tail + 10

-- version 1, arcs from `start` on: "An arc is mode (2 bytes), pair (2), Pre, Post, I (4 each), 16 bytes."; the fields of an arc that stands at `at`
abbrev pub arc_at : ℕ → ℕ → ℕ
arc_at start k = start + 16 * k

abbrev pub arc_size : ℕ
arc_size = 16

abbrev pub arc_mode_at : ℕ → ℕ
arc_mode_at at = at

abbrev pub arc_tail_at : ℕ → ℕ
arc_tail_at at = at + 2

abbrev pub arc_pair_at : ℕ → ℕ
arc_pair_at at = at + 2

-- version 2, a mode's arcs from `start` on: "arcs of 14 bytes without the mode"
abbrev pub group_arc_at : ℕ → ℕ → ℕ
group_arc_at start i = start + 14 * i

-- Net sheet: "Place count S (2 bytes ..); transition count (2 bytes ..); colours of each place ..; modes of each transition ..;
-- for each pair K and the first marking ..; arc count (2 bytes ..); the arcs."
-- Document 02, P9: "In version 2 a rule byte .. follows the version."
abbrev pub rule_at : ℕ
rule_at = 5

abbrev pub fields_from : Version → ℕ
fields_from One = 5
fields_from Two = 6

unfoldable pub fields_at : List ℕ → ℕ
fields_at s = fields_from (version_of s)

abbrev pub places_at : List ℕ → ℕ
places_at s = fields_at s

abbrev pub transitions_at : List ℕ → ℕ
transitions_at s = fields_at s + 2

abbrev pub colours_at : List ℕ → ℕ
colours_at s = fields_at s + 4

-- the arcs follow their count, which stands at `at`
abbrev pub arcs_after : ℕ → ℕ
arcs_after at = at + 2

module _ (s : List ℕ) where
  abbrev pub place_count : ℕ
  place_count = u16_at s (places_at s)

  abbrev pub transition_count : ℕ
  transition_count = u16_at s (transitions_at s)

  abbrev pub modes_at : ℕ
  modes_at = count_at (colours_at s) place_count

  unfoldable pub pair_count : ℕ
  pair_count = total_of s (colours_at s) place_count

  unfoldable pub mode_count : ℕ
  mode_count = total_of s modes_at transition_count

  abbrev pub pairs_offset : ℕ
  pairs_offset = count_at modes_at transition_count

  abbrev pub arc_count_at : ℕ
  arc_count_at = pair_at pairs_offset pair_count

  unfoldable pub arc_count : ℕ
  arc_count = u16_at s arc_count_at

  abbrev pub arcs_offset : ℕ
  arcs_offset = arcs_after arc_count_at

-- Version 2, from `base` on: "The arc count and the arcs are replaced by, for each mode, a 2-byte arc count and that many arcs". How many arcs stand
-- before those of mode t, where its arc count stands, and how many it has
unfoldable pub arcs_before : List ℕ → ℕ → ℕ → ℕ
arcs_before s base zero = 0
arcs_before s base (suc t) = arcs_before s base t + u16_at s (base + 2 * t + 14 * arcs_before s base t)

abbrev pub group_at : List ℕ → ℕ → ℕ → ℕ
group_at s base t = base + 2 * t + 14 * arcs_before s base t

abbrev pub group_count : List ℕ → ℕ → ℕ → ℕ
group_count s base t = u16_at s (group_at s base t)

-- Movement sheet: "Mode numbers, 2 bytes each"; as many whole ones as fit in L
abbrev pub movements_at : ℕ
movements_at = 5

abbrev pub movement_at : ℕ → ℕ
movement_at k = movements_at + 2 * k

abbrev pub movement_count : List ℕ → ℕ
movement_count s = (body_length s - 1) / 2

-- Weight sheet: "Pair count (2 bytes), then one signed 4-byte weight in kilograms for each pair"
abbrev pub weight_count_at : ℕ
weight_count_at = 5

abbrev pub weight_count : List ℕ → ℕ
weight_count s = u16_at s weight_count_at

abbrev pub weight_at : ℕ → ℕ
weight_at p = 7 + 4 * p
