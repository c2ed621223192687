-- The refusal tables of the three sheets, row by row in documents 01's and 02's words and order; a net is thing 0, weights are 1, movements 2.
use Rattle.std.specs.Prelude.{ℕ, ◌+◌, ◌*◌, ◌-◌, ◌≤◌, ◌<◌, ◌≡◌, List, ◌⊎◌, ◌≢◌, length, ℤ, pos, negsuc, ◌<ℤ◌}
use Rattle.model.specs.declared.Version.{Version}
use Rattle.model.specs.declared.Version.TheVariants.{One, Two}
use Rattle.model.specs.Numbers.{Above, limit}
use Rattle.model.specs.Refusals.{carries}
use Rattle.model.specs.RefusalTables.{Table, row, ◌then◌, each, Reads}
use Rattle.heads.specs.Bytes.{byte_at, u16_at, u32_at}
use Rattle.heads.specs.Layout.{body_length, sheet_end, version, count_at, total_of, pair_at, capacity_at, start_at, tail_size, tail_pair_at, tail_pre_at, tail_post_at, tail_inhibitor_at, arc_at, arc_size, arc_mode_at, arc_tail_at, arc_pair_at, group_arc_at, rule_at, places_at, transitions_at, colours_at, arcs_after, place_count, transition_count, modes_at, pair_count, mode_count, pairs_offset, arc_count_at, arcs_before, group_at, group_count, movement_count, weight_count_at, weight_count, weight_at}
use Rattle.heads.specs.Version.{version_of}
use Rattle.sheets.specs.lists.Movements.{most_movements, movements_refusal}
use Rattle.sheets.specs.lists.Weights.{signed, weights_refusal}
use Rattle.fields.specs.Numbers.{unbounded, bound}
use Rattle.sheets.specs.nets.Nets.{net_refusal}

module _ (thing : ℕ) (s : List ℕ) where
  -- "1, then L = 0, then 2"; 2 where the version byte is none of the sheet's own
  abbrev pub head_table : Type 0 → Table
  head_table unknown =
      row ((length s < 4) ⊎ (length s < sheet_end s)) (carries 1 thing 0)
      then row (body_length s ≡ 0) (carries 3 thing 0)
      then row unknown (carries 2 thing 4)

  -- "a field runs past L": `size` bytes at `at`
  abbrev pub past_end : ℕ → ℕ → Table
  past_end at size = row (sheet_end s < at + size) (carries 3 thing at)

  -- "bytes left over" from `at` on
  abbrev pub left_after : ℕ → Table
  left_after at = row (at < sheet_end s) (carries 3 thing at)

  -- "a count outside its limits"
  abbrev pub count_table : ℕ → ℕ → ℕ → Table
  count_table at low high = past_end at 2 then row ((u16_at s at < low) ⊎ (high < u16_at s at)) (carries 4 thing at)

-- "In a movement sheet a lone last byte (3, at that byte) comes before too many movements (4, at offset 5)."
unfoldable pub movement_table : List ℕ → Table
movement_table s =
    head_table 2 s (version s ≢ 1)
    then row ((k : ℕ) × (body_length s ≡ 2 * k + 2)) (carries 3 2 (sheet_end s - 1))
    then row (most_movements < movement_count s) (carries 4 2 5)

-- "A weight may be negative, from -1000000 to 1000000"; negsuc 999999 is -1,000,000
abbrev pub WeightOutside : ℤ → Type 0
WeightOutside z = (z <ℤ negsuc 999999) ⊎ (pos 1000000 <ℤ z)

-- "In a weight sheet 17 comes before the weights."
unfoldable pub weight_table : ℕ → List ℕ → Table
weight_table pairs s =
    head_table 1 s (version s ≢ 1)
    then past_end 1 s weight_count_at 2
    then row (weight_count s ≢ pairs) (carries 17 1 5)
    then each (weight_count s) (λ p.
    past_end 1 s (weight_at p) 4 then row (WeightOutside (signed (u32_at s (weight_at p)))) (carries 5 1 (weight_at p)))
    then left_after 1 s (weight_at (weight_count s))

module _ (s : List ℕ) where
  -- "a number outside its range", one that must be finite, or a K or I
  abbrev pub number_row : ℕ → Table
  number_row at = row (limit < u32_at s at) (carries 5 0 at)

  abbrev pub bound_row : ℕ → Table
  bound_row at = row ((limit < u32_at s at) × (u32_at s at ≢ unbounded)) (carries 5 0 at)

  -- "a count outside its limits, or the running total passes 256"
  abbrev pub running_table : ℕ → ℕ → Table
  running_table start i =
      count_table 0 s (count_at start i) 1 64 then row (256 < total_of s start (i + 1)) (carries 4 0 (count_at start i))

  -- "For the first marking 5 comes before 9": "a count above a finite K"
  abbrev pub pair_table : ℕ → Table
  pair_table at =
      (past_end 0 s (capacity_at at) 4 then bound_row (capacity_at at))
      then past_end 0 s (start_at at) 4
      then number_row (start_at at)
      then row (Above (u32_at s (start_at at)) (bound (u32_at s (capacity_at at)))) (carries 9 0 (start_at at))

  -- "5 for Pre, Post and I in turn, 8": of the arc at `arc`, whose 14 bytes stand at `tail`
  abbrev pub tail_table : ℕ → ℕ → Table
  tail_table arc tail =
      number_row (tail_pre_at tail)
      then number_row (tail_post_at tail)
      then bound_row (tail_inhibitor_at tail)
      then row ((u32_at s (tail_pre_at tail) ≡ 0) × (u32_at s (tail_post_at tail) ≡ 0) × (u32_at s (tail_inhibitor_at tail) ≡ unbounded)) (carries 8 0 arc)

  abbrev pub Higher : ℕ → ℕ → Type 0
  Higher before at =
      (u16_at s (arc_mode_at before) < u16_at s (arc_mode_at at))
      ⊎ ((u16_at s (arc_mode_at before) ≡ u16_at s (arc_mode_at at)) × (u16_at s (arc_pair_at before) < u16_at s (arc_pair_at at)))

  -- "For an arc all 16 bytes must be there (else 3 at the arc's first byte), then 6 for mode, 6 for pair, 7, 5 for Pre, Post and I in turn, 8."
  abbrev pub arc_names_table : ℕ → ℕ → Table
  arc_names_table start k =
      row (mode_count s ≤ u16_at s (arc_mode_at (arc_at start k))) (carries 6 0 (arc_mode_at (arc_at start k)))
      then row (pair_count s ≤ u16_at s (arc_pair_at (arc_at start k))) (carries 6 0 (arc_pair_at (arc_at start k)))
      then row ((0 < k) × (¬ Higher (arc_at start (k - 1)) (arc_at start k))) (carries 7 0 (arc_at start k))

  abbrev pub arc_table : ℕ → ℕ → Table
  arc_table start k =
      past_end 0 s (arc_at start k) arc_size then arc_names_table start k then tail_table (arc_at start k) (arc_tail_at (arc_at start k))

  -- version 2: "7 now compares pairs within a mode"
  abbrev pub group_arc_table : ℕ → ℕ → Table
  group_arc_table start i =
      past_end 0 s (group_arc_at start i) tail_size
      then (row (pair_count s ≤ u16_at s (tail_pair_at (group_arc_at start i))) (carries 6 0 (tail_pair_at (group_arc_at start i)))
      then row ((0 < i) × (u16_at s (tail_pair_at (group_arc_at start i)) ≤ u16_at s (tail_pair_at (group_arc_at start (i - 1))))) (carries 7 0 (group_arc_at start i)))
      then tail_table (group_arc_at start i) (group_arc_at start i)

  -- 4 "at the arc count whose running total passes 2,048"
  abbrev pub group_table : ℕ → ℕ → Table
  group_table base t =
      past_end 0 s (group_at s base t) 2
      then row (2048 < arcs_before s base t + group_count s base t) (carries 4 0 (group_at s base t))
      then each (group_count s base t) (group_arc_table (arcs_after (group_at s base t)))

  -- what both versions have before the arcs
  abbrev pub counts_table : Table
  counts_table =
      count_table 0 s (places_at s) 1 64
      then count_table 0 s (transitions_at s) 0 64
      then each (place_count s) (running_table (colours_at s))
      then each (transition_count s) (running_table (modes_at s))

  abbrev pub pairs_table : Table
  pairs_table = each (pair_count s) (λ p. pair_table (pair_at (pairs_offset s) p))

  -- version 2: "a rule byte .. follows the version", 0 or (P10) 1, and "4 for another rule byte"
  unfoldable pub fields_table : Version → Table
  fields_table One =
      counts_table
      then pairs_table
      then count_table 0 s (arc_count_at s) 0 2048
      then each (u16_at s (arc_count_at s)) (arc_table (arcs_after (arc_count_at s)))
      then left_after 0 s (arc_at (arcs_after (arc_count_at s)) (u16_at s (arc_count_at s)))
  fields_table Two =
      (past_end 0 s rule_at 1 then row ((byte_at s rule_at ≢ 0) × (byte_at s rule_at ≢ 1)) (carries 4 0 rule_at))
      then counts_table
      then pairs_table
      then each (mode_count s) (group_table (arc_count_at s))
      then left_after 0 s (group_at s (arc_count_at s) (mode_count s))

  -- "Only net sheets have a version 2."
  unfoldable pub net_table : Table
  net_table = head_table 0 s ((version s ≢ 1) × (version s ≢ 2)) then fields_table (version_of s)

-- Each reader's answer is the one that its table gives, for any run of bytes.
pub record SheetTables : Type 0 where
  pub movements : (s : List ℕ) → Reads (movement_table s) (movements_refusal s)
  pub weights : (pairs : ℕ) (s : List ℕ) → Reads (weight_table pairs s) (weights_refusal pairs s)
  pub nets : (s : List ℕ) → Reads (net_table s) (net_refusal s)
