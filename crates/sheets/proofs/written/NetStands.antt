-- The sheet of the net that was read stands where it was read.
use Prim.Native.Nat.{ℕ, ◌+◌, ◌*◌, ◌≤◌, ◌<◌}
use mathlib.Core.Path.{◌≡◌, refl, sym, ◌∙◌, ap}
use mathlib.Core.List.{List, flatten, flat_map}
use lib.ListN.{length}
use native.Mathlib.Omega.{arith}
use Rattle.model.specs.declared.Version.{Version}
use Rattle.model.specs.declared.Version.TheVariants.{One, Two}
use Rattle.model.specs.Nets.{rule_number, modes, K, count}
use Rattle.model.specs.WellFormed.{WellFormed}
use Rattle.heads.specs.Bytes.{byte_at, u16_at}
use Rattle.heads.specs.Layout.{body_length, version, rule_at, counts, fields_at, places_at, transitions_at, colours_at, place_count, transition_count, modes_at, mode_count, pairs_offset, pair_at, arc_count_at, arc_count, arcs_offset, arc_at, group_at}
use Rattle.heads.specs.Version.{version_of}
use Rattle.heads.specs.Rule.{rule_of}
use Rattle.sheets.specs.Decoded.{net_arcs, net_of}
use Rattle.sheets.specs.written.Written.{bytes16, bytes32, pair_bytes, arc_bytes, pairs_bytes, version_number, version_bytes, head_bytes, total_bytes, section_bytes, fields_of, length_of, sheet_of}
use Rattle.sheets.specs.written.Puts.{section_size}
use Rattle.sheets.proofs.written.Stands.{Stands, stands-both, moved, none_stand, next-stands}
use Rattle.sheets.proofs.written.BigEndian.{length16, length32, head-length, two, stand16, stand32}
use Rattle.sheets.proofs.written.Sections.{joined_stand, section_stands}
use Rattle.sheets.proofs.Meaning.{rule-is, counts-length, pairs-are, modes-are, capacity-at, start-at, arcs-length, arcs-two}
use Rattle.sheets.proofs.GroupArcs.{group_arcs-length}
use Rattle.sheets.proofs.written.Records.{pair-length, arc-length, stand_pair, stand_arc}
use Rattle.sheets.proofs.written.SheetLength.{counts_section, pairs_section, section_size_lem, fields-length}
use Rattle.sheets.proofs.written.ByMode.{by_mode}
use Rattle.sheets.proofs.written.Groups.{arcs_stand_back}
use Rattle.sheets.proofs.written.Versions.{rule-number, fields_from_lem}

-- where the arcs of a sheet end
abbrev pub arcs_end : Version → List ℕ → ℕ
arcs_end One s = arc_at (arcs_offset s) (arc_count s)
arcs_end Two s = group_at s (arc_count_at s) (mode_count s)

pub arcs-end : (v : Version) (s : List ℕ) → version_of s ≡ v → arcs_end v s ≡ arc_count_at s + section_size v (modes (net_of s)) (length (net_of s).arcs)
arcs-end One s e = omega (arith, arcs-length s e)
arcs-end Two s e = omega (arith, ap length (arcs-two s e), group_arcs-length s (arc_count_at s) (mode_count s), modes-are s)

module _ (s : List ℕ) where
  pub places_of : length (net_of s).colours ≡ place_count s
  unfolding net_of
  places_of = counts-length s (colours_at s) (place_count s)

  pub transitions-of : length (net_of s).modes_of ≡ transition_count s
  unfolding net_of
  transitions-of = counts-length s (modes_at s) (transition_count s)

  module _ (byte : (i : ℕ) → byte_at s i < 256) where
    counts_stand : (at n : ℕ) → Stands s at (flat_map bytes16 (counts s at n))
    unfolding counts
    counts_stand at n = section_stands 2 bytes16 length16 n _ (λ i k l e. moved k e (stand16 s byte (at + 2 * i)))

    pairs_stand : Stands s (pairs_offset s) (pairs_bytes (net_of s))
    unfolding pairs_bytes
    pairs_stand =
        joined_stand 8 (λ p. pair_bytes (K (net_of s) p) (count (net_of s).start p)) (λ p. pair-length _ _) _
        (λ p k l e. rw (capacity-at s p (rw (← pairs-are s) l), start-at s p (rw (← pairs-are s) l)) (moved k e (stand_pair s (pair_at (pairs_offset s) p) byte)))

    count-stands : (at n : ℕ) → n ≡ u16_at s at → Stands s at (bytes16 n)
    count-stands at n e = rw e (stand16 s byte at)

    arcs_stand : Stands s (arcs_offset s) (flat_map (arc_bytes One) (net_arcs One s))
    unfolding net_arcs
    arcs_stand = section_stands 16 (arc_bytes One) (arc-length One) _ _ (λ k i l e. moved i e (stand_arc s (arc_at (arcs_offset s) k) byte))

    arcs-are : (v : Version) → version_of s ≡ v → (net_of s).arcs ≡ net_arcs v s
    unfolding net_of
    arcs-are v e = rw e

    section_by : (v : Version) → version_of s ≡ v → Stands s (arc_count_at s) (section_bytes v (net_of s))
    unfolding section_bytes total_bytes arc_count
    section_by One e =
        let arcs : Stands s (arcs_offset s) (flat_map (arc_bytes One) (net_of s).arcs) = rw (arcs-are One e) arcs_stand in
        stands-both (count-stands (arc_count_at s) _ (arcs-length s e)) arcs (omega (arith, length16 (length (net_of s).arcs)))
    section_by Two e = rw (arcs-two s e, modes-are s) (arcs_stand_back s (arc_count_at s) (mode_count s) byte)

    pub fields_stand : Stands s (fields_at s) (flatten (fields_of (version_of s) (net_of s)))
    unfolding bytes16 net_of
    fields_stand =
        let places = counts_section (net_of s).colours in
        let transitions = counts_section (net_of s).modes_of in
        let pairs = pairs_section (net_of s) in
        next-stands _ (count-stands (places_at s) _ places_of) (omega arith)
        (next-stands _ (count-stands (transitions_at s) _ transitions-of) (omega arith)
        (next-stands _ (counts_stand (colours_at s) (place_count s)) (omega arith)
        (next-stands _ (counts_stand (modes_at s) (transition_count s)) (omega (arith, places_of))
        (next-stands _ pairs_stand (omega (arith, places_of, transitions-of))
        (next-stands _ (section_by (version_of s) refl) (omega (arith, places_of, transitions-of, pairs-are s)) none_stand)))))

  pub fields-are-at : fields_at s ≡ 4 + length (version_bytes (version_of s) (rule_number (net_of s).rule))
  unfolding fields_at
  fields-are-at = fields_from_lem (version_of s) (rule_number (net_of s).rule)

  pub ends_of : WellFormed (net_of s) → 4 + length_of (version_of s) (net_of s) ≡ arcs_end (version_of s) s
  ends_of well =
      omega (
        arith,
        fields-are-at,
        fields-length (version_of s) (net_of s),
        section_size_lem (version_of s) (net_of s) (by_mode (net_of s) well),
        arcs-end (version_of s) s refl,
        places_of,
        transitions-of,
        pairs-are s,
      )

  version-stands : (v : Version) → version s ≡ version_number v → (v ≡ Two → byte_at s rule_at ≡ rule_number (net_of s).rule) → Stands s 4 (version_bytes v (rule_number (net_of s).rule))
  unfolding version_bytes
  version-stands One e r = record { each = λ j k l q. let j≡0 : j ≡ 0 = omega arith in let k≡4 : k ≡ 4 = omega arith in rw (j≡0, k≡4) e }
  version-stands Two e r = two s 4 e (r refl)

  pub sheet-stands : (byte : (i : ℕ) → byte_at s i < 256) → version s ≡ version_number (version_of s) → (version_of s ≡ Two → byte_at s rule_at ≤ 1)
      → body_length s ≡ length_of (version_of s) (net_of s) → Stands s 0 (sheet_of (version_of s) (net_of s))
  unfolding sheet_of head_bytes
  sheet-stands byte v r e =
      let l = length_of (version_of s) (net_of s) in
      let length-stands : Stands s 0 (bytes32 l) = rw (← e) (stand32 s byte 0) in
      let rule : version_of s ≡ Two → byte_at s rule_at ≡ rule_number (net_of s).rule = λ two. rule-number s (r two) ∙ ap rule_number (sym (rule-is s ∙ ap (λ v. rule_of v s) two)) in
      let head = stands-both length-stands (version-stands (version_of s) v rule) (omega (arith, length32 l)) in
      stands-both head (fields_stand byte) (omega (arith, fields-are-at, head-length (version_of s) (rule_number (net_of s).rule) l))
