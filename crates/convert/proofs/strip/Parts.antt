-- The sheet of a net with a transition appended, part by part, and how long it is.
use Prim.Native.Nat.{ℕ, ◌+◌, ◌-◌, ◌*◌, ◌≤◌, ◌<◌}
use mathlib.Core.Path.{◌≡◌, refl, sym, ◌∙◌, ap, ap₂, subst}
use mathlib.Core.Bool.{true}
use mathlib.Core.List.{List, [], ◌∷◌, ◌++◌, append_assoc, append-nil, flatten, flat_map}
use lib.ListN.{length, length-append}
use native.Mathlib.Omega.{arith}
use borrow.Author.Tests.{leb-false, not-false}
use Rattle.model.specs.declared.Pair.{Pair}
use Rattle.model.specs.declared.Version.{Version}
use Rattle.model.specs.Lists.{joined}
use Rattle.model.specs.Numbers.{fin}
use Rattle.model.specs.Nets.{NetArc, PNet, rule_number, pairs, modes, mode_no, K}
use Rattle.model.specs.WellFormed.{WellFormed}
use Rattle.model.proofs.First.{left-none, right-none, only_if_none}
use Rattle.movement.proofs.Joined.{joined_ext, joined-split}
use Rattle.heads.specs.Bytes.{byte_at}
use Rattle.heads.specs.Layout.{fields_at}
use Rattle.heads.specs.Version.{version_of}
use Rattle.sheets.specs.Decoded.{net_of}
use Rattle.opened.specs.declared.shape.NetShape.{NetShape}
use Rattle.opened.specs.Shape.{Open}
use Rattle.opened.proofs.Shapes.{shaped, sizes}
use Rattle.sheets.specs.written.Written.{bytes16, head_bytes, arc_bytes, pairs_bytes, total_bytes, own_bytes, group_bytes, of_mode, section_bytes, fields_of, length_of, sheet_of}
use Rattle.sheets.specs.written.Puts.{Put, Room, part_of, mode_size, own_size}
use Rattle.sheets.proofs.written.Stands.{InTurn, stands-both, in_turn, moved}
use Rattle.sheets.proofs.written.BigEndian.{length16}
use Rattle.sheets.proofs.written.Puts.{puts, part-is}
use Rattle.sheets.proofs.written.Sections.{section_append, section_one}
use Rattle.sheets.proofs.written.Records.{arc-length}
use Rattle.sheets.proofs.written.Versions.{own-length}
use Rattle.sheets.proofs.written.SheetLength.{counts_section, pairs_section, section_by-mode, sheet-length, sheet-size, sheet-least, sheet-most}
use Rattle.sheets.proofs.written.ByMode.{by_mode}
use Rattle.sheets.proofs.written.NetStands.{fields_stand}
use Rattle.convert.specs.Parts.{mode_group}
use Rattle.convert.proofs.Parts.{common_there, rule-is}
use Rattle.bare.specs.Strip.{strip_entry, strip, bound_of, strip_limits, strip_refusal}
use Rattle.bare.proofs.Arcs.{transitions-many, modes-many, arcs-many}
use Rattle.bare.proofs.StripWellFormed.{Few, few, well_formed_strip}
use Rattle.convert.specs.strip.Stripped.{stripped_sheet}
use Rattle.convert.specs.strip.Parts.{counts_bytes, numbers_bytes, records_bytes, new_group, Numbers, new_size, Strips}
use Rattle.convert.proofs.strip.ByMode.{old_of, new-of}

module _ (v : Version) (net : PNet) (p : Pair) (k : ℕ) where
  colours-same : flat_map bytes16 (strip net p k).colours ≡ flat_map bytes16 net.colours
  unfolding strip
  colours-same = refl

  modes_bytes : flat_map bytes16 (strip net p k).modes_of ≡ flat_map bytes16 net.modes_of ++ bytes16 (k + 1)
  unfolding strip
  modes_bytes = section_append bytes16 net.modes_of ((k + 1) ∷ []) ∙ ap (λ bytes. flat_map bytes16 net.modes_of ++ bytes) (section_one bytes16 (k + 1))

  pairs-same : pairs_bytes (strip net p k) ≡ pairs_bytes net
  unfolding strip pairs_bytes
  pairs-same = refl

  pub sheet-parts : sheet_of v (strip net p k) ≡ counts_bytes (strip net p k) v ++ (records_bytes net k ++ section_bytes v (strip net p k))
  unfolding sheet_of flatten counts_bytes records_bytes numbers_bytes
  sheet-parts = rw (colours-same, modes_bytes, pairs-same) (simp (append_assoc, append-nil))

  pub section_parts : WellFormed net → WellFormed (strip net p k)
      → section_bytes v (strip net p k) ≡ total_bytes v (length net.arcs + (k + 1)) ++ (joined (modes net) (mode_group v net) ++ joined (k + 1) (new_group v (modes net) p))
  unfolding new_group
  section_parts well well' =
      let groups : ℕ → List ℕ = λ t. group_bytes v (of_mode (strip net p k).arcs t) in
      section_by-mode v (strip net p k) (by_mode (strip net p k) well')
      ∙ ap₂ ◌++◌ (ap (total_bytes v) (arcs-many net p k))
      (ap (λ n. joined n groups) (modes-many net p k)
      ∙ joined-split (modes net) (k + 1) groups
      ∙ ap₂ ◌++◌ (joined_ext (modes net) _ _ (λ t l. ap (group_bytes v) (old_of net p k t l))) (joined_ext (k + 1) _ _ (λ n l. ap (group_bytes v) (new-of net p k well n (omega arith)))))

-- room for a new mode's arc, as its put asks for it
module _ (v : Version) (before : ℕ) (p : Pair) (n : ℕ) where
  group_length : length (new_group v before p n) ≡ own_size v + (mode_size v + 14)
  unfolding new_group
  group_length =
      let a : NetArc = record { mode = mode_no (before + n); pair = p; entry = strip_entry n } in
      omega (arith, length-append (own_bytes v 1) (flat_map (arc_bytes v) (a ∷ [])), own-length v 1, ap length (section_one (arc_bytes v) a), arc-length v a)

  -- its own count, then the arc
  pub group_put : {l l₁ l₂ : List ℕ} {at k₁ k₂ : ℕ} → Put l at (own_size v) (own_bytes v 1) l₁ k₁
      → Put l₁ k₁ (mode_size v + 14) (arc_bytes v (record { mode = mode_no (before + n); pair = p; entry = strip_entry n })) l₂ k₂
      → Put l at (own_size v + (mode_size v + 14)) (new_group v before p n) l₂ k₂
  unfolding new_group
  group_put own arc = rw section_one (puts own arc)

  pub group_fits : {out : List ℕ} {at : ℕ} → Room out at (new_group v before p n) → at + (own_size v + (mode_size v + 14)) ≤ length out
  group_fits h = omega (arith, h.fits, group_length)

-- what stands in the sheet that was read
module _ {s : List ℕ} {net : NetShape} (o : Open s net) where
  numbers-length : length (numbers_bytes (net_of s)) ≡ 2 * net.places + 2 * net.transitions
  unfolding numbers_bytes
  numbers-length =
      let colours = (net_of s).colours in
      let modes_of = (net_of s).modes_of in
      omega (arith, length-append (flat_map bytes16 colours) (flat_map bytes16 modes_of), counts_section colours, counts_section modes_of, (sizes o).places, (sizes o).transitions)

  pub records_there : fields_at s + 4 + (2 * net.places + 2 * net.transitions) + 8 * net.pairs ≤ length s
  records_there = omega (arith, common_there o)

  module _ (byte : (i : ℕ) → byte_at s i < 256) where
    abbrev fields : InTurn s (fields_at s) (fields_of (version_of s) (net_of s))
    fields = in_turn (fields_of (version_of s) (net_of s)) (fields_stand s byte)

    pub numbers-is : {at : ℕ} → at ≡ fields_at s → part_of s (at + 4) (2 * net.places + 2 * net.transitions) ≡ numbers_bytes (net_of s)
    unfolding numbers_bytes
    numbers-is e =
        let counts = moved (fields_at s + 4) (omega (arith, length16 (length (net_of s).colours), length16 (length (net_of s).modes_of))) (stands-both fields.1.1.0 fields.1.1.1.0 refl) in
        ap (λ at. part_of s (at + 4) (2 * net.places + 2 * net.transitions)) e ∙ part-is counts (2 * net.places + 2 * net.transitions) (sym numbers-length)

    pub pairs_is : {at : ℕ} → at ≡ fields_at s → part_of s (at + 4 + (2 * net.places + 2 * net.transitions)) (8 * net.pairs) ≡ pairs_bytes (net_of s)
    pairs_is e =
        let z = sizes o in
        let colours = (net_of s).colours in
        let modes_of = (net_of s).modes_of in
        let at : fields_at s + 4 + (2 * net.places + 2 * net.transitions) ≡ fields_at s + length (bytes16 (length colours)) + length (bytes16 (length modes_of)) + length (flat_map bytes16 colours) + length (flat_map bytes16 modes_of) = omega (arith, length16 (length colours), length16 (length modes_of), counts_section colours, counts_section modes_of, z.places, z.transitions) in
        ap (λ at. part_of s (at + 4 + (2 * net.places + 2 * net.transitions)) (8 * net.pairs)) e
        ∙ part-is (moved (fields_at s + 4 + (2 * net.places + 2 * net.transitions)) at fields.1.1.1.1.0) (8 * net.pairs) (omega (arith, pairs_section (net_of s), z.pairs))

module _ {s : List ℕ} {net : NetShape} (o : Open s net) (p : Pair) (k : ℕ) where
  pub places-are : net.places ≡ length (strip (net_of s) p k).colours
  unfolding strip
  places-are = (sizes o).places

  pub transitions-are : net.transitions + 1 ≡ length (strip (net_of s) p k).modes_of
  transitions-are = omega (arith, (sizes o).transitions, transitions-many (net_of s) p k)

  pairs-are : net.pairs ≡ pairs (strip (net_of s) p k)
  unfolding strip
  pairs-are = (sizes o).pairs

  pub modes-are : net.modes + (k + 1) ≡ modes (strip (net_of s) p k)
  modes-are = omega (arith, (sizes o).modes, modes-many (net_of s) p k)

  pub arcs-are : net.arcs + (k + 1) ≡ length (strip (net_of s) p k).arcs
  arcs-are = omega (arith, (sizes o).arcs, arcs-many (net_of s) p k)

  pub size_is : WellFormed (strip (net_of s) p k) → new_size net k ≡ length (sheet_of net.version (strip (net_of s) p k))
  size_is well =
      rw (places-are, transitions-are, pairs-are, modes-are, arcs-are) refl
      ∙ sym (sheet-size net.version (strip (net_of s) p k) (by_mode (strip (net_of s) p k) well))

  -- of the sheet that the call speaks of
  pub sheet-is : K (net_of s) p.0 ≡ fin k → sheet_of net.version (strip (net_of s) p k) ≡ stripped_sheet s p
  sheet-is e = ap (λ v. sheet_of v (strip (net_of s) p k)) (shaped o).version ∙ rw e refl

-- of a pair that is not refused
module _ {s : List ℕ} {net : NetShape} {p : Pair} {k : ℕ} (o : Strips s net p k) where
  there : p.0 < pairs (net_of s)
  unfolding strip_refusal
  there = leb-false _ _ (only_if_none _ _ (left-none _ _ o.accepted))

  within : Few (net_of s) p k
  unfolding strip_refusal
  within =
      let limits = not-false _ (only_if_none _ _ (right-none _ _ (right-none _ _ o.accepted))) in
      few (net_of s) p k (subst (λ b. strip_limits (net_of s) p (bound_of b) ≡ true) o.bound limits)

  pub well_stripped : WellFormed (strip (net_of s) p k)
  well_stripped = well_formed_strip (net_of s) p k (sizes o.opened).well_formed there within

  pub numbers : Numbers net k
  numbers =
      let z = sizes o.opened in
      record {
        deep = within.deep;
        places = omega (arith, z.places, z.well_formed.places.many);
        transitions = omega (arith, within.transitions, transitions-are o.opened p k);
        pairs = z.pairs_within;
        modes = omega (arith, within.modes, modes-are o.opened p k);
        arcs = omega (arith, within.arcs, arcs-are o.opened p k);
      }

  pub section_is : section_bytes net.version (strip (net_of s) p k)
      ≡ total_bytes net.version (net.arcs + (k + 1)) ++ (joined net.modes (mode_group net.version (net_of s)) ++ joined (k + 1) (new_group net.version net.modes p))
  section_is =
      let z = sizes o.opened in
      section_parts net.version (net_of s) p k z.well_formed well_stripped ∙ rw (z.arcs, z.modes) refl

  -- the head: the net's rule, and L
  pub head-is : {size : ℕ} → size ≡ new_size net k
      → head_bytes net.version (rule_number net.rule) (size - 4) ≡ head_bytes net.version (rule_number (strip (net_of s) p k).rule) (length_of net.version (strip (net_of s) p k))
  unfolding strip
  head-is e =
      ap₂ (head_bytes net.version) (rule-is o.opened)
      (omega (arith, e, size_is o.opened p k well_stripped, sheet-length net.version (strip (net_of s) p k)))

  pub size_small : (4 ≤ new_size net k) × (new_size net k ≤ 35083)
  size_small =
      let n = numbers in (
        omega (arith, size_is o.opened p k well_stripped, sheet-least net.version (strip (net_of s) p k)),
        sheet-most net.version net.places (net.transitions + 1) net.pairs (net.modes + (k + 1)) (net.arcs + (k + 1)) n.places n.transitions n.pairs n.modes n.arcs,
      )
