-- How long a net sheet can be, and that one as long is of bytes.
use Prim.Native.Nat.{ℕ, ◌≤◌, ◌<◌}
use mathlib.Core.Path.{◌≡◌, refl, ◌∙◌}
use mathlib.Core.List.{List}
use lib.ListN.{length, get_or, replicate, get_or-replicate}
use native.Mathlib.Omega.{arith}
use Rattle.model.specs.declared.Mode.{Mode}
use Rattle.model.specs.Numbers.{ℕ∞, ∞}
use Rattle.model.specs.Rows.{Entry, Row}
use Rattle.model.specs.Nets.{PNet, pairs, modes, arc_no, mode_no}
use Rattle.model.specs.declared.Version.{Version}
use Rattle.model.specs.declared.Version.TheVariants.{One, Two}
use Rattle.model.specs.declared.CapacityRule.TheVariants.{Strong}
use Rattle.model.specs.WellFormed.{ArcOf, Counted, WellFormed}
use Rattle.second_form.specs.Complement.{written, arcs_of}
use Rattle.movement.proofs.Each.{each_at, sorted-rising}
use Rattle.second_form.proofs.WrittenRows.{not_blank_lem, each_row, sorted-rows}
use Rattle.heads.specs.Version.{version_of}
use Rattle.sheets.specs.Decoded.{net_of}
use Rattle.sheets.proofs.Accepted as sheets
use Rattle.sheets.proofs.written.ByMode.{by_mode}
use Rattle.sheets.proofs.written.NetStands.{ends_of}
use Rattle.sheets.specs.written.Written.{sheet_of}
use Rattle.sheets.specs.written.Promises.{HasSheet, largest_of}
use Rattle.sheets.specs.written.Puts.{sheet_size}
use Rattle.sentences.specs.Largest.{Largest}
use Rattle.sentences.proofs.AllBytes.{sheet-bytes}
use Rattle.sheets.proofs.written.RoundTrip.{fields-end, written-then-read}
use Rattle.sheets.proofs.written.Sections.{joined_length}
use Rattle.sheets.proofs.written.SheetLength.{sheet-length, sheet-size}

-- A net at every limit: 64 places of 4 colours, 64 transitions of 4 modes, and an arc at each pair of the first 8 modes.
one : Entry
one = record { pre = 1; post = 0; inhibitor = ∞ }

rows : Mode → Row
rows t p = one

abbrev fours : List ℕ
fours = replicate 64 4

largest : PNet
largest =
    record {
      rule = Strong;
      colours = fours;
      modes_of = fours;
      capacity = replicate 256 ∞;
      start = replicate 256 0;
      arcs = arcs_of 8 256 rows;
    }

counted : Counted fours
counted =
    record {
      many = omega arith;
      each = λ i h. let is : get_or fours i 0 ≡ 4 = get_or-replicate 64 i 4 0 (omega arith) in omega arith;
      in_total = omega arith;
    }

arcs-many : length (arcs_of 8 256 rows) ≡ 2048
unfolding arcs_of rows one
arcs-many = joined_length 256 _ (λ t. joined_length 1 (λ p. written (mode_no t) p (rows (mode_no t) p)) (λ p. refl) 256 ∙ omega arith) 8 ∙ omega arith

arc-of : (k : ℕ) → k < length largest.arcs → ArcOf largest (arc_no largest.arcs k)
unfolding largest rows one
arc-of =
    each_at (ArcOf largest) _ (arcs_of 8 256 rows)
    (each_row (ArcOf largest) 8 256 rows
    (λ t p h l d.
    record { mode = omega arith; pair = omega arith; pre = omega arith; post = omega arith; inhibitor = tt; not_blank = not_blank_lem one d }))

well_formed_lem : WellFormed largest
unfolding largest
well_formed_lem =
    record {
      some_place = omega arith;
      places = counted;
      transitions = counted;
      capacities = refl;
      capacity_in_range = λ p h. rw (get_or-replicate {A = ℕ∞} 256 p ∞ ∞ h) tt;
      start = record { one_each = refl; in_range = λ p h. rw (get_or-replicate {A = ℕ} 256 p 0 0 h) (omega arith); within = λ p h. rw (get_or-replicate {A = ℕ∞} 256 p ∞ ∞ h) tt };
      arc_count = omega (arith, arcs-many);
      each_arc = arc-of;
      rising = sorted-rising (arcs_of 8 256 rows) (sorted-rows 8 256 rows);
    }

has_sheet : (v : Version) → HasSheet v largest
unfolding largest
has_sheet v e = refl

size : (v : Version) → length (sheet_of v largest) ≡ largest_of v
unfolding largest
size One = omega (arith, sheet-size One largest (by_mode largest well_formed_lem), arcs-many)
size Two = omega (arith, sheet-size Two largest (by_mode largest well_formed_lem), arcs-many)

size-most : (v : Version) (places transitions pairs modes arcs : ℕ) → places ≤ 64 → transitions ≤ 64 → pairs ≤ 256 → modes ≤ 256 → arcs ≤ 2048
    → sheet_size v places transitions pairs modes arcs ≤ largest_of v
size-most One places transitions pairs modes arcs a b c d e = omega arith
size-most Two places transitions pairs modes arcs a b c d e = omega arith

pub largest-sheet : Largest
largest-sheet =
    record {
      most = λ s e.
          let well = sheets.well_formed_lem s e in
          omega (
            arith,
            fields-end s e,
            ends_of s well,
            sheet-length (version_of s) (net_of s),
            sheet-size (version_of s) (net_of s) (by_mode (net_of s) well),
            size-most (version_of s) (length (net_of s).colours) (length (net_of s).modes_of) (pairs (net_of s)) (modes (net_of s)) (length (net_of s).arcs) well.places.many well.transitions.many well.places.in_total well.transitions.in_total well.arc_count,
          );
      reached = λ v. let back = written-then-read v largest well_formed_lem (has_sheet v) in (sheet_of v largest, sheet-bytes v largest, back.version, back.accepted, size v);
    }
