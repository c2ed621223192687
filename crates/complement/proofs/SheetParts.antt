-- The sheet of the complement, part by part, and how long it is.
use Prim.Native.Nat.{ℕ, ◌+◌, ◌*◌, ◌-◌, ◌≤◌}
use mathlib.Core.Path.{◌≡◌, refl, sym, ◌∙◌, ap}
use mathlib.Core.List.{List, ◌++◌, append_assoc, append-nil, flatten}
use lib.ListN.{length, length-append}
use native.Mathlib.Omega.{arith}
use Rattle.model.specs.Nets.{PNet, rule_number, pairs, modes}
use Rattle.second_form.specs.Complement.{complement}
use Rattle.model.specs.declared.Version.{Version}
use Rattle.model.specs.declared.Version.TheVariants.{One, Two}
use Rattle.opened.specs.declared.shape.NetShape.{NetShape}
use Rattle.sheets.specs.Decoded.{net_of}
use Rattle.opened.specs.Shape.{Open}
use Rattle.opened.specs.Starts.{StartsAre}
use Rattle.sheets.specs.written.Puts.{head_size, sheet_size}
use Rattle.sheets.specs.written.Written.{bytes16, head_bytes, total_bytes, section_bytes, sheet_of, length_of}
use Rattle.opened.proofs.Shapes.{shaped, sizes}
use Rattle.sheets.proofs.written.BigEndian.{length16}
use Rattle.sheets.proofs.written.SheetLength.{head-size, sheet-length, sheet-size}
use Rattle.complement.proofs.sections.ModeHalves.{complement-arcs}
use Rattle.complement.proofs.sections.Rows.{by_mode, section_rows, arcs-few}
use Rattle.complement.specs.sections.Arcs.{row_bytes}
use Rattle.model.specs.Lists.{joined}
use Rattle.complement.specs.declared.sheet.Sizes.{Sizes}
use Rattle.complement.specs.Complemented.{complement_sheet}
use Rattle.complement.specs.Sizes.{sizes_of, SizesWith, Few, counts_bytes, records_bytes}

pub sheet-parts : (v : Version) (net : PNet) → sheet_of v net ≡ counts_bytes v net ++ (records_bytes net ++ section_bytes v net)
unfolding sheet_of flatten
sheet-parts v net = simp (append_assoc, append-nil)

pub counts-size : (v : Version) (net : PNet) → length (counts_bytes v net) ≡ head_size v + 4
counts-size v net =
    let head = head_bytes v (rule_number net.rule) (length_of v net) in
    let counts = bytes16 (length net.colours) ++ bytes16 (length net.modes_of) in
    omega (arith, length-append head counts, length-append (bytes16 (length net.colours)) (bytes16 (length net.modes_of)), head-size v (rule_number net.rule) (length_of v net), length16 (length net.colours), length16 (length net.modes_of))

few_bytes : (v : Version) (places transitions pairs modes arcs : ℕ) → places ≤ 128 → transitions ≤ 64 → pairs ≤ 512 → modes ≤ 256 → arcs ≤ 4096
    → sheet_size v places transitions pairs modes arcs ≤ 100000
few_bytes One n t p m k a b c d e = omega arith
few_bytes Two n t p m k a b c d e = omega arith

-- "Modes are unchanged."
transitions-kept : (net : PNet) → length (complement net).modes_of ≡ length net.modes_of
unfolding complement
transitions-kept net = refl

pub modes-kept : (net : PNet) → modes (complement net) ≡ modes net
unfolding complement
modes-kept net = refl

-- what the complement has, and at most two arcs for each of the net's
pub sizes-are : (net : PNet) → SizesWith net (length (complement net).arcs) (sizes_of net)
unfolding sizes_of
sizes-are net = record { places = refl; pairs = refl; arcs = refl }

pub sizes-is : (net : PNet) {of : Sizes} → SizesWith net (length (complement net).arcs) of → of ≡ sizes_of net
unfolding sizes_of
sizes-is net are = λ i. record { places = are.places i; pairs = are.pairs i; arcs = are.arcs i }

module _ {s : List ℕ} {net : NetShape} (o : Open s net) where
  pub arcs-at-most : {starts : List ℕ} → StartsAre (net_of s).arcs starts → length (complement (net_of s)).arcs ≤ 2 * net.arcs
  arcs-at-most are =
      let z = sizes o in
      let few = arcs-few (net_of s) z.well_formed are (modes (net_of s)) (omega (arith, z.modes, z.modes_within)) in
      omega (arith, few, ap length (complement-arcs (net_of s)), z.arcs)

  pub transitions-are : net.transitions ≡ length (complement (net_of s)).modes_of
  transitions-are = omega (arith, (sizes o).transitions, transitions-kept (net_of s))

  module _ {of : Sizes} (are : SizesWith (net_of s) (length (complement (net_of s)).arcs) of) where
    pub size_is : sheet_size net.version of.places net.transitions of.pairs net.modes of.arcs ≡ length (sheet_of net.version (complement (net_of s)))
    size_is =
        rw (are.places, are.pairs, are.arcs, transitions-are, (sizes o).modes, ← modes-kept (net_of s)) refl
        ∙ sym (sheet-size net.version (complement (net_of s)) (by_mode (net_of s)))

  pub sheet-few : {starts : List ℕ} {most : Sizes} → StartsAre (net_of s).arcs starts → SizesWith (net_of s) (2 * net.arcs) most → Few most
      → length (sheet_of net.version (complement (net_of s))) ≤ 100000
  unfolding sizes_of
  sheet-few are with few =
      let z = sizes o in
      let small =
      few_bytes net.version (length (complement (net_of s)).colours) net.transitions (pairs (complement (net_of s))) net.modes (length (complement (net_of s)).arcs)
      (omega (arith, with.places, few.places)) (omega (arith, z.transitions, z.well_formed.transitions.many)) (omega (arith, with.pairs, few.pairs)) z.modes_within (omega (arith, arcs-at-most are, with.arcs, few.arcs))
      in
      omega (arith, small, size_is (sizes-are (net_of s)))

-- its length L
pub length-is : (v : Version) (net : PNet) {size : ℕ} → size ≡ length (sheet_of v net) → (size - 4 ≡ length_of v net) × (4 ≤ size)
length-is v net e = (omega (arith, sheet-length v net), omega (arith, sheet-length v net))

-- the complement keeps the rule
pub rule-is : {s : List ℕ} {net : NetShape} → Open s net → rule_number net.rule ≡ rule_number (complement (net_of s)).rule
unfolding complement
rule-is o = ap rule_number (shaped o).rule

-- of the sheet that the call speaks of
pub sheet-is : {s : List ℕ} {net : NetShape} → Open s net → sheet_of net.version (complement (net_of s)) ≡ complement_sheet s
sheet-is {s} o = ap (λ v. sheet_of v (complement (net_of s))) (shaped o).version

pub arc-parts : {s : List ℕ} {net : NetShape} (o : Open s net)
    → section_bytes net.version (complement (net_of s)) ≡ total_bytes net.version (length (complement (net_of s)).arcs) ++ joined net.modes (row_bytes (net_of s) net.version)
arc-parts {s} {net} o =
    section_rows (net_of s) net.version
    ∙ ap (λ n. total_bytes net.version (length (complement (net_of s)).arcs) ++ joined n (row_bytes (net_of s) net.version)) (sym (sizes o).modes)
