-- How long a net's sheet is, by its counts.
use Prim.Native.Nat.{ℕ, zero, suc, ◌+◌, ◌*◌, ◌≤◌}
use mathlib.Core.Path.{◌≡◌, refl, sym, ◌∙◌, ap}
use mathlib.Core.List.{List, [], ◌++◌, flatten, flat_map}
use lib.ListN.{length, length-append}
use native.Mathlib.Omega.{arith}
use Rattle.model.specs.declared.Version.{Version}
use Rattle.model.specs.declared.Version.TheVariants.{One, Two}
use Rattle.model.specs.Lists.{joined}
use Rattle.model.specs.Nets.{NetArc, PNet, rule_number, pairs, modes, K, count, arc_no}
use Rattle.sheets.specs.written.Written.{bytes16, pair_bytes, version_bytes, head_bytes, arc_bytes, pairs_bytes, of_mode, total_bytes, own_bytes, group_bytes, section_bytes, fields_of, length_of, sheet_of}
use Rattle.sheets.specs.written.Puts.{head_size, mode_size, section_size, version_size, sheet_size}
use Rattle.sheets.proofs.written.BigEndian.{length16, head-length}
use Rattle.sheets.proofs.written.Sections.{joined_length, section_joined, section_length}
use Rattle.sheets.proofs.written.Records.{pair-length, arc-length}

pub counts_section : (counts : List ℕ) → length (flat_map bytes16 counts) ≡ 2 * length counts
counts_section = section_length 2 bytes16 length16 0

pub arcs_section : (v : Version) (arcs : List NetArc) → length (flat_map (arc_bytes v) arcs) ≡ (mode_size v + 14) * length arcs
arcs_section v = section_length (mode_size v + 14) (arc_bytes v) (arc-length v) (arc_no [] 0)

-- arcs that are those of mode 0, then those of mode 1, ..
pub record ByMode (net : PNet) : Type 0 where
  pub is : joined (modes net) (of_mode net.arcs) ≡ net.arcs

-- both versions' arcs, told once: a count of all, then for each mode its own count and its arcs
pub section_by-mode : (v : Version) (net : PNet) → ByMode net
    → section_bytes v net ≡ total_bytes v (length net.arcs) ++ joined (modes net) (λ t. group_bytes v (of_mode net.arcs t))
unfolding section_bytes total_bytes own_bytes
section_by-mode One net by =
    ap (λ arcs. bytes16 (length net.arcs) ++ flat_map (arc_bytes One) arcs) (sym by.is)
    ∙ ap (λ bytes. bytes16 (length net.arcs) ++ bytes) (section_joined (arc_bytes One) (modes net) (of_mode net.arcs))
section_by-mode Two net by = refl

pub groups_length : (n : ℕ) (arcs : ℕ → List NetArc) → length (joined n (λ t. group_bytes Two (arcs t))) ≡ 2 * n + 14 * length (joined n arcs)
unfolding joined own_bytes
groups_length zero arcs = refl
groups_length (suc n) arcs =
    simp length-append (omega (arith, groups_length n arcs, arcs_section Two (arcs n), length16 (length (arcs n)), length-append (joined n arcs) (arcs n)))

pub section_one : (net : PNet) → length (section_bytes One net) ≡ 2 + 16 * length net.arcs
unfolding section_bytes total_bytes
section_one net = rw length-append (omega (arith, length16 (length net.arcs), arcs_section One net.arcs))

pub section_size_lem : (v : Version) (net : PNet) → ByMode net → length (section_bytes v net) ≡ section_size v (modes net) (length net.arcs)
unfolding section_bytes total_bytes
section_size_lem One net by = section_one net
section_size_lem Two net by = groups_length (modes net) (of_mode net.arcs) ∙ ap (λ arcs. 2 * modes net + 14 * length arcs) by.is

pub pairs_section : (net : PNet) → length (pairs_bytes net) ≡ 8 * pairs net
unfolding pairs_bytes
pairs_section net = joined_length 8 (λ p. pair_bytes (K net p) (count net.start p)) (λ p. pair-length _ _) (pairs net)

module _ (v : Version) (net : PNet) where
  pub fields-length : length (flatten (fields_of v net)) ≡ 2 + 2 + 2 * length net.colours + 2 * length net.modes_of + 8 * pairs net + length (section_bytes v net)
  unfolding flatten bytes16
  fields-length =
      simp length-append (omega (arith, counts_section net.colours, counts_section net.modes_of, pairs_section net))

  pub sheet-length : length (sheet_of v net) ≡ 4 + length_of v net
  unfolding sheet_of
  sheet-length = rw (length-append, head-length) (omega arith)

pub version-size : (v : Version) (rule : ℕ) → length (version_bytes v rule) ≡ version_size v
unfolding version_bytes
version-size One rule = refl
version-size Two rule = refl

pub head-size : (v : Version) (rule l : ℕ) → length (head_bytes v rule l) ≡ head_size v
head-size One rule l = omega (arith, head-length One rule l, version-size One rule)
head-size Two rule l = omega (arith, head-length Two rule l, version-size Two rule)

pub sheet-size : (v : Version) (net : PNet) → ByMode net
    → length (sheet_of v net) ≡ sheet_size v (length net.colours) (length net.modes_of) (pairs net) (modes net) (length net.arcs)
sheet-size v net by = omega (arith, sheet-length v net, fields-length v net, section_size_lem v net by, version-size v (rule_number net.rule))

-- no sheet with few places, transitions, pairs, modes and arcs is longer than document 01's largest
pub sheet-most : (v : Version) (places transitions pairs modes arcs : ℕ) → places ≤ 64 → transitions ≤ 64 → pairs ≤ 256 → modes ≤ 256 → arcs ≤ 2048
    → sheet_size v places transitions pairs modes arcs ≤ 35083
sheet-most One places transitions pairs modes arcs a b c d e = omega arith
sheet-most Two places transitions pairs modes arcs a b c d e = omega arith

-- nor shorter than its head and the first two counts
pub sheet-least : (v : Version) (net : PNet) → 9 ≤ length (sheet_of v net)
sheet-least v net = omega (arith, sheet-length v net, fields-length v net, version-size v (rule_number net.rule), version-some v)
  where
    version-some : (v : Version) → 1 ≤ version_size v
    version-some One = omega arith
    version-some Two = omega arith
