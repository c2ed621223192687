-- The sheet of the net that was read, in either version, part by part.
use Prim.Native.Nat.{ℕ, ◌+◌, ◌-◌, ◌*◌, ◌≤◌, ◌<◌}
use mathlib.Core.Path.{◌≡◌, refl, sym, ◌∙◌, ap, subst}
use mathlib.Core.List.{List, ◌++◌, append_assoc, append-nil, flatten}
use lib.ListN.{length, length-append}
use native.Mathlib.Omega.{arith}
use Rattle.model.specs.declared.Version.{Version}
use Rattle.model.specs.Lists.{joined}
use Rattle.model.specs.Nets.{PNet, rule_number, pairs}
use Rattle.heads.specs.Bytes.{byte_at}
use Rattle.heads.specs.Layout.{fields_at}
use Rattle.heads.specs.Version.{version_of}
use Rattle.sheets.proofs.nets.Valid.{headed}
use Rattle.sheets.specs.Decoded.{net_of}
use Rattle.opened.specs.declared.shape.NetShape.{NetShape}
use Rattle.opened.specs.Shape.{Open}
use Rattle.opened.proofs.Shapes.{shaped, sizes}
use Rattle.sheets.specs.written.Written.{bytes16, head_bytes, total_bytes, section_bytes, fields_of, length_of, sheet_of}
use Rattle.sheets.specs.written.Puts.{part_of, sheet_size}
use Rattle.sheets.proofs.written.Stands.{Stands, stands-left}
use Rattle.sheets.proofs.written.SheetLength.{ByMode, counts_section, pairs_section, section_by-mode, sheet-length, sheet-size, sheet-least, sheet-most}
use Rattle.sheets.proofs.written.ByMode.{by_mode}
use Rattle.sheets.proofs.written.Puts.{part-is}
use Rattle.sheets.proofs.written.NetStands.{fields_stand}
use Rattle.sheets.proofs.written.RoundTrip.{pairs-there}
use Rattle.convert.specs.Parts.{common_bytes, mode_group}

module _ (v : Version) (net : PNet) where
  fields-parts : flatten (fields_of v net) ≡ common_bytes net ++ section_bytes v net
  unfolding common_bytes flatten
  fields-parts = simp (append_assoc, append-nil)

  pub sheet-parts : sheet_of v net ≡ head_bytes v (rule_number net.rule) (length_of v net) ++ (common_bytes net ++ section_bytes v net)
  unfolding sheet_of
  sheet-parts = ap (λ fields. head_bytes v (rule_number net.rule) (length_of v net) ++ fields) fields-parts

common_length : (net : PNet) → length (common_bytes net) ≡ 4 + 2 * length net.colours + 2 * length net.modes_of + 8 * pairs net
unfolding common_bytes bytes16
common_length net = simp length-append (omega (arith, counts_section net.colours, counts_section net.modes_of, pairs_section net))

module _ {s : List ℕ} {net : NetShape} (o : Open s net) where
  pub rule-is : rule_number net.rule ≡ rule_number (net_of s).rule
  rule-is = ap rule_number (shaped o).rule

  ordered : ByMode (net_of s)
  ordered = by_mode (net_of s) (sizes o).well_formed

  -- what both versions have, where it stands in the sheet that was read
  abbrev pub common_size : ℕ
  common_size = 4 + 2 * net.places + 2 * net.transitions + 8 * net.pairs

  pub common_there : fields_at s + common_size ≤ length s
  common_there = omega (arith, shaped o, headed s o.accepted, pairs-there s o.accepted)

  pub common_is : ((i : ℕ) → byte_at s i < 256) → part_of s (fields_at s) common_size ≡ common_bytes (net_of s)
  common_is byte =
      let fields = subst (Stands s (fields_at s)) (fields-parts (version_of s) (net_of s)) (fields_stand s byte) in
      part-is (stands-left (common_bytes (net_of s)) (section_bytes (version_of s) (net_of s)) fields) common_size (omega (arith, common_length (net_of s), sizes o))

  module _ (v : Version) where
    pub section_parts : section_bytes v (net_of s) ≡ total_bytes v net.arcs ++ joined net.modes (mode_group v (net_of s))
    section_parts = section_by-mode v (net_of s) ordered ∙ rw ((sizes o).arcs, (sizes o).modes) refl

    pub size_is : {size : ℕ} → size ≡ sheet_size v net.places net.transitions net.pairs net.modes net.arcs → size ≡ length (sheet_of v (net_of s))
    size_is e =
        e ∙ rw ((sizes o).places, (sizes o).transitions, (sizes o).pairs, (sizes o).modes, (sizes o).arcs) refl ∙ sym (sheet-size v (net_of s) ordered)

    pub length-is : {size : ℕ} → size ≡ length (sheet_of v (net_of s)) → size - 4 ≡ length_of v (net_of s)
    length-is e = omega (arith, sheet-length v (net_of s))

    pub size_small : (4 ≤ length (sheet_of v (net_of s))) × (length (sheet_of v (net_of s)) ≤ 35083)
    size_small =
        let z = sizes o in
        let most = sheet-most v net.places net.transitions net.pairs net.modes net.arcs (omega (arith, z.places, z.well_formed.places.many)) (omega (arith, z.transitions, z.well_formed.transitions.many)) z.pairs_within z.modes_within z.arcs_within in
        (omega (arith, sheet-least v (net_of s)), omega (arith, most, size_is refl))
