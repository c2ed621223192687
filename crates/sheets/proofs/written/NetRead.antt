-- A run in which a well-formed net's sheet stands reads as that net.
use Prim.Native.Nat.{ℕ, ◌+◌, ◌*◌, ◌≤◌, ◌<◌}
use mathlib.Core.Path.{◌≡◌, refl, sym, ◌∙◌, ap, subst}
use mathlib.Core.List.{List, [], ◌++◌, flatten, flat_map}
use lib.ListN.{length, get_or}
use native.Mathlib.Omega.{arith}
use Rattle.model.specs.declared.Version.{Version}
use Rattle.model.specs.declared.Version.TheVariants.{One, Two}
use Rattle.model.specs.declared.CapacityRule.{CapacityRule}
use Rattle.model.specs.declared.CapacityRule.TheVariants.{Strong}
use Rattle.model.specs.Numbers.{∞}
use Rattle.model.specs.Nets.{PNet, rule_number, total, pairs, modes, K, count, arc_no}
use Rattle.model.specs.WellFormed.{WellFormed, Counted}
use Rattle.model.specs.Lists.{table}
use Rattle.heads.specs.Bytes.{byte_at, u32_at}
use Rattle.heads.specs.Layout.{body_length, version, rule_at, counts, fields_from, fields_at, colours_at, place_count, transition_count, modes_at, mode_count, pair_count, pairs_offset, pair_at, arc_count_at, arc_count, arcs_offset, arc_at, capacity_at, start_at}
use Rattle.heads.specs.Version.{version_of}
use Rattle.heads.specs.Rule.{rule_of}
use Rattle.fields.specs.Numbers.{bound}
use Rattle.sheets.specs.Decoded.{net_arc_at, net_arcs, net_of}
use Rattle.sheets.specs.written.Written.{bytes16, bytes32, pair_bytes, arc_bytes, pairs_bytes, version_number, version_bytes, head_bytes, total_bytes, section_bytes, fields_of, length_of, sheet_of}
use Rattle.sheets.specs.written.Promises.{HasSheet}
use Rattle.sheets.specs.written.Puts.{sheet_size}
use Rattle.sheets.proofs.written.Stands.{Stands, InTurn, stands-left, stands-right, moved, in_turn}
use Rattle.sheets.proofs.written.BigEndian.{length16, length32, head-length, read16, read32}
use Rattle.sheets.proofs.written.Sections.{table_is, joined-each, section_each}
use Rattle.sheets.proofs.written.Records.{pair-length, arc-length, read-capacity, read-start, read-arc}
use Rattle.sheets.proofs.written.SheetLength.{counts_section, pairs_section, sheet-length, sheet-size, sheet-most}
use Rattle.sheets.proofs.written.ByMode.{by_mode}
use Rattle.sheets.proofs.written.Groups.{arcs-read-back}
use Rattle.sheets.proofs.written.Versions.{version-is, rule-small, rule-named, fields_from_lem}

module _ (s : List ℕ) where
  counts-read : (at : ℕ) (xs : List ℕ) → Counted xs → Stands s at (flat_map bytes16 xs) → (n : ℕ) → n ≡ length xs → counts s at n ≡ xs
  unfolding counts
  counts-read at xs counted stands n e =
      table_is 0 xs n _ e
      (λ i l. read16 s (at + 2 * i) (get_or xs i 0) (omega (arith, counted.each i l)) (section_each 2 bytes16 length16 0 xs stands i (at + 2 * i) l refl))

  -- the version byte, and in version 2 the rule after it
  number-stands : (v : Version) (rule : ℕ) → Stands s 4 (version_bytes v rule) → version s ≡ version_number v
  unfolding version_bytes
  number-stands One rule h = h.each 0 4 (omega arith) (omega arith)
  number-stands Two rule h = h.each 0 4 (omega arith) (omega arith)

  rule-stands : (v : Version) (rule : ℕ) → Stands s 4 (version_bytes v rule) → v ≡ Two → byte_at s rule_at ≡ rule
  unfolding version_bytes
  rule-stands v rule h e = (subst (λ v. Stands s 4 (version_bytes v rule)) e h).each 1 5 (omega arith) (omega arith)

  rule-by : (v : Version) (rule : CapacityRule) → (v ≡ One → rule ≡ Strong) → Stands s 4 (version_bytes v (rule_number rule)) → rule_of v s ≡ rule
  unfolding rule_of
  rule-by One rule one h = sym (one refl)
  rule-by Two rule one h = rule-named s rule (rule-stands Two (rule_number rule) h refl)

module _ (s : List ℕ) (v : Version) (net : PNet) (well : WellFormed net) (stands : Stands s 0 (sheet_of v net)) where
  abbrev head_of : List ℕ
  head_of = head_bytes v (rule_number net.rule) (length_of v net)

  head : Stands s 0 head_of
  unfolding sheet_of
  head = stands-left head_of (flatten (fields_of v net)) stands

  version-stands : Stands s 4 (version_bytes v (rule_number net.rule))
  unfolding head_bytes
  version-stands = stands-right (bytes32 (length_of v net)) (version_bytes v (rule_number net.rule)) head 4 (omega (arith, length32 (length_of v net)))

  pub number_read : version s ≡ version_number v
  number_read = number-stands s v (rule_number net.rule) version-stands

  pub version-read : version_of s ≡ v
  version-read = version-is v s number_read

  pub rule-read : v ≡ Two → byte_at s rule_at ≤ 1
  rule-read e = omega (arith, rule-stands s v (rule_number net.rule) version-stands e, rule-small net.rule)

  fields-are-at : fields_at s ≡ 4 + length (version_bytes v (rule_number net.rule))
  unfolding fields_at
  fields-are-at = ap fields_from version-read ∙ fields_from_lem v (rule_number net.rule)

  fields : InTurn s (fields_at s) (fields_of v net)
  unfolding sheet_of
  fields =
      in_turn _ (stands-right head_of (flatten (fields_of v net)) stands (fields_at s) (omega (arith, fields-are-at, head-length v (rule_number net.rule) (length_of v net))))

  pub sheet-few : length (sheet_of v net) ≡ sheet_size v (length net.colours) (length net.modes_of) (pairs net) (modes net) (length net.arcs)
  sheet-few = sheet-size v net (by_mode net well)

  pub body-length-read : body_length s ≡ length_of v net
  unfolding head_bytes
  body-length-read =
      read32 s 0 (length_of v net)
      (omega (
        arith,
        sheet-length v net,
        sheet-few,
        sheet-most v (length net.colours) (length net.modes_of) (pairs net) (modes net) (length net.arcs) well.places.many well.transitions.many well.places.in_total well.transitions.in_total well.arc_count,
      ))
      (stands-left (bytes32 (length_of v net)) (version_bytes v (rule_number net.rule)) head)

  places-read : place_count s ≡ length net.colours
  places-read = read16 s (fields_at s) (length net.colours) (omega (arith, well.places.many)) fields.0

  transitions-read : transition_count s ≡ length net.modes_of
  unfolding bytes16
  transitions-read = read16 s (fields_at s + 2) (length net.modes_of) (omega (arith, well.transitions.many)) fields.1.0

  colours-read : counts s (colours_at s) (place_count s) ≡ net.colours
  unfolding bytes16
  colours-read =
      counts-read s (colours_at s) net.colours well.places (moved (colours_at s) (omega arith) fields.1.1.0) (place_count s) places-read

  modes-read : counts s (modes_at s) (transition_count s) ≡ net.modes_of
  unfolding bytes16
  modes-read =
      counts-read s (modes_at s) net.modes_of well.transitions (moved (modes_at s) (omega (arith, places-read, counts_section net.colours)) fields.1.1.1.0) (transition_count s) transitions-read

  pairs-read : pair_count s ≡ pairs net
  unfolding pair_count
  pairs-read = ap total colours-read

  modes-counted : mode_count s ≡ modes net
  unfolding mode_count
  modes-counted = ap total modes-read

  pairs_stand : Stands s (pairs_offset s) (pairs_bytes net)
  unfolding bytes16
  pairs_stand =
      moved (pairs_offset s) (omega (arith, places-read, transitions-read, counts_section net.colours, counts_section net.modes_of))
      fields.1.1.1.1.0

  pair-stands : (p : ℕ) → p < pairs net → Stands s (pair_at (pairs_offset s) p) (pair_bytes (K net p) (count net.start p))
  unfolding pairs_bytes
  pair-stands p h = joined-each 8 (λ q. pair_bytes (K net q) (count net.start q)) (λ q. pair-length _ _) (pairs net) pairs_stand p (pair_at (pairs_offset s) p) h refl

  capacities-read : table (pair_count s) (λ p. bound (u32_at s (capacity_at (pair_at (pairs_offset s) p)))) ≡ net.capacity
  capacities-read =
      table_is ∞ net.capacity (pair_count s) _ (pairs-read ∙ sym well.capacities)
      (λ p h.
      let i : p < pairs net = omega (arith, well.capacities) in
      read-capacity s (pair_at (pairs_offset s) p) (K net p) (count net.start p) (pair-stands p i) (well.capacity_in_range p i))

  start-read : table (pair_count s) (λ p. u32_at s (start_at (pair_at (pairs_offset s) p))) ≡ net.start
  start-read =
      table_is 0 net.start (pair_count s) _ (pairs-read ∙ sym well.start.one_each)
      (λ p h.
      let i : p < pairs net = omega (arith, well.start.one_each) in
      read-start s (pair_at (pairs_offset s) p) (K net p) (count net.start p) (pair-stands p i) (well.start.in_range p i))

  section_stands : Stands s (arc_count_at s) (section_bytes v net)
  unfolding bytes16
  section_stands =
      moved (arc_count_at s) (omega (arith, places-read, transitions-read, pairs-read, counts_section net.colours, counts_section net.modes_of, pairs_section net))
      fields.1.1.1.1.1.0

  -- version 1: the count, then the arcs
  module _ (all : Stands s (arc_count_at s) (section_bytes One net)) where
    counted : Stands s (arc_count_at s) (bytes16 (length net.arcs) ++ flat_map (arc_bytes One) net.arcs)
    unfolding section_bytes total_bytes
    counted = all

    arcs-counted : arc_count s ≡ length net.arcs
    unfolding arc_count
    arcs-counted =
        read16 s (arc_count_at s) (length net.arcs) (omega (arith, well.arc_count)) (stands-left (bytes16 (length net.arcs)) (flat_map (arc_bytes One) net.arcs) counted)

    arcs-one : table (arc_count s) (λ k. net_arc_at s (arc_at (arcs_offset s) k)) ≡ net.arcs
    arcs-one =
        let arcs = stands-right (bytes16 (length net.arcs)) (flat_map (arc_bytes One) net.arcs) counted (arcs_offset s) (omega (arith, length16 (length net.arcs))) in
        table_is (arc_no [] 0) net.arcs (arc_count s) _ arcs-counted
        (λ k h.
        read-arc s (arc_at (arcs_offset s) k) net (well.transitions.in_total, well.places.in_total) (arc_no net.arcs k) (well.each_arc k h)
        (section_each 16 (arc_bytes One) (arc-length One) (arc_no [] 0) net.arcs arcs k (arc_at (arcs_offset s) k) h (omega arith)))

  arcs-by : (w : Version) → Stands s (arc_count_at s) (section_bytes w net) → net_arcs w s ≡ net.arcs
  unfolding net_arcs
  arcs-by One all = arcs-one all
  arcs-by Two all = rw modes-counted (arcs-read-back net well s (arc_count_at s) all)

  arcs-read : net_arcs (version_of s) s ≡ net.arcs
  arcs-read = rw version-read (arcs-by v section_stands)

  rule-is-read : HasSheet v net → rule_of (version_of s) s ≡ net.rule
  rule-is-read has = ap (λ v. rule_of v s) version-read ∙ rule-by s v net.rule has version-stands

  pub net-read : HasSheet v net → net_of s ≡ net
  unfolding net_of
  net-read has = λ i. record { rule = rule-is-read has i; colours = colours-read i; modes_of = modes-read i; capacity = capacities-read i; start = start-read i; arcs = arcs-read i }
