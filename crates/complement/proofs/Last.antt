-- What stands before the rest and is put after it: the arc count, and the head with the counts of places and transitions.
use Prim.Native.Nat.{ℕ, ◌+◌, ◌-◌, ◌/◌, ◌≤◌, ◌<◌}
use mathlib.Core.Path.{◌≡◌, refl, sym, ◌∙◌, ap}
use mathlib.Core.List.{List, ◌++◌}
use lib.ListN.{length, length-append}
use native.Mathlib.Omega.{arith}
use Rattle.model.specs.declared.Version.{Version}
use Rattle.model.specs.declared.Version.TheVariants.{One, Two}
use Rattle.model.specs.Lists.{joined}
use Rattle.model.specs.Nets.{PNet}
use Rattle.second_form.specs.Complement.{complement}
use Rattle.sheets.specs.Decoded.{net_of}
use Rattle.opened.specs.declared.shape.NetShape.{NetShape}
use Rattle.opened.specs.Shape.{Open}
use Rattle.opened.specs.Starts.{StartsAre}
use Rattle.opened.proofs.Shapes.{sizes}
use Rattle.sheets.specs.written.Written.{total_bytes, section_bytes, sheet_of}
use Rattle.sheets.specs.written.Puts.{Room, Puts, head_size, total_size, section_size}
use Rattle.sheets.proofs.written.Puts.{put_length, puts_as, puts-before}
use Rattle.sheets.proofs.written.Versions.{total-length}
use Rattle.sheets.proofs.written.SheetLength.{section_size_lem}
use Rattle.complement.specs.sections.Arcs.{row_bytes}
use Rattle.complement.proofs.sections.Rows.{by_mode}
use Rattle.complement.specs.Sizes.{counts_bytes, records_bytes}
use Rattle.complement.proofs.sections.Fields.{ends_as}
use Rattle.complement.proofs.SheetParts.{sheet-parts, counts-size, modes-kept, arcs-at-most, arc-parts}

-- version 1's arcs are a 16th of their bytes; version 2 has no count of all
counted : (v : Version) (rows modes arcs : ℕ) → total_size v + rows ≡ section_size v modes arcs → total_bytes v (rows / 16) ≡ total_bytes v arcs
unfolding total_bytes
counted One rows modes arcs e = let q : rows / 16 ≡ arcs = omega arith in rw q
counted Two rows modes arcs e = refl

counted-few : (v : Version) (rows modes arcs : ℕ) → total_size v + rows ≡ section_size v modes arcs → modes ≤ 256 → arcs ≤ 4096 → rows / 16 < 65536
counted-few One rows modes arcs e h l = omega arith
counted-few Two rows modes arcs e h l = omega arith

module _ {s : List ℕ} {net : NetShape} (o : Open s net) where
  abbrev pub arc_rows : List ℕ
  arc_rows = joined net.modes (row_bytes (net_of s) net.version)

  section_length : length (section_bytes net.version (complement (net_of s))) ≡ total_size net.version + length arc_rows
  section_length =
      ap length (arc-parts o)
      ∙ omega (arith, length-append (total_bytes net.version (length (complement (net_of s)).arcs)) arc_rows, total-length net.version (length (complement (net_of s)).arcs))

  rows_are : total_size net.version + length arc_rows ≡ section_size net.version net.modes (length (complement (net_of s)).arcs)
  rows_are =
      sym section_length
      ∙ section_size_lem net.version (complement (net_of s)) (by_mode (net_of s))
      ∙ ap (λ n. section_size net.version n (length (complement (net_of s)).arcs)) (modes-kept (net_of s) ∙ sym (sizes o).modes)

  module _ {l : List ℕ} {at : ℕ} (room : Room l at (section_bytes net.version (complement (net_of s)))) where
    pub rows-room : {start total : ℕ} → total ≡ total_size net.version → start ≡ at + total → Room l start arc_rows
    rows-room e q = record { fits = omega (arith, room.fits, section_length) }

    pub total-room : {m : List ℕ} {start end : ℕ} → Puts l start arc_rows m end → (n : ℕ) → Room m at (total_bytes net.version n)
    total-room put n = record { fits = omega (arith, room.fits, put.kept, section_length, total-length net.version n) }

  module _ {l m : List ℕ} {start end : ℕ} (put : Puts l start arc_rows m end) where
    bytes_put : end - start ≡ length arc_rows
    bytes_put = omega (arith, put.next)

    pub total-is : total_bytes net.version ((end - start) / 16) ≡ total_bytes net.version (length (complement (net_of s)).arcs)
    total-is = rw bytes_put (counted net.version (length arc_rows) net.modes (length (complement (net_of s)).arcs) rows_are)

    pub total-few : {starts : List ℕ} → StartsAre (net_of s).arcs starts → (end - start) / 16 < 65536
    total-few are =
        let z = sizes o in
        rw bytes_put (counted-few net.version (length arc_rows) net.modes (length (complement (net_of s)).arcs) rows_are z.modes_within (omega (arith, arcs-at-most o are, z.arcs, z.arcs_within)))

-- the sheet from its records on
module _ (v : Version) (net : PNet) where
  abbrev pub rest_bytes : List ℕ
  rest_bytes = records_bytes net ++ section_bytes v net

  sheet-length : length (sheet_of v net) ≡ head_size v + 4 + length rest_bytes
  sheet-length = ap length (sheet-parts v net) ∙ omega (arith, length-append (counts_bytes v net) rest_bytes, counts-size v net)

  module _ {l : List ℕ} (room : Room l 0 (sheet_of v net)) where
    pub rest-room : {at : ℕ} → at ≡ head_size v + 4 → Room l at rest_bytes
    rest-room e = record { fits = omega (arith, room.fits, sheet-length) }

    pub counts-room : {m : List ℕ} {at end : ℕ} → Puts l at rest_bytes m end → Room m 0 (counts_bytes v net)
    counts-room put = record { fits = omega (arith, room.fits, sheet-length, counts-size v net, put.kept) }

  pub ends-sheet : {l m : List ℕ} {at end : ℕ} → at ≡ head_size v + 4 → Puts l at rest_bytes m end → end ≡ length (sheet_of v net)
  ends-sheet e put = omega (arith, put.next, sheet-length)

  -- what stands before the records is put after them
  pub whole-sheet : {l m n : List ℕ} {head end k : ℕ} → head ≡ head_size v → Puts l (head + 4) rest_bytes m end → Puts m 0 (counts_bytes v net) n k → Puts l 0 (sheet_of v net) n end
  whole-sheet e rest counts = puts_as (sym (sheet-parts v net)) (put_length (puts-before rest (ends_as (omega (arith, counts-size v net)) counts)))
