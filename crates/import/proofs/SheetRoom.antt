-- The parts of the sheet in turn: there is room for each, and together they are the sheet.
use Prim.Native.Nat.{ℕ, ◌+◌, ◌-◌, ◌*◌, ◌≤◌, ◌<◌}
use mathlib.Core.Path.{◌≡◌, sym, ap, ap₂}
use mathlib.Core.List.{List}
use lib.ListN.{length}
use native.Mathlib.Omega.{arith}
use Rattle.model.specs.declared.Version.TheVariants.{One}
use Rattle.model.specs.declared.CapacityRule.TheVariants.{Strong}
use Rattle.model.specs.Nets.{PNet, rule_number, pairs, modes}
use Rattle.sheets.specs.written.Written.{bytes16, head_bytes, length_of}
use Rattle.sheets.specs.written.Puts.{Put, Room, Puts, sheet_size}
use Rattle.sheets.proofs.written.Puts.{put_length, puts_as, puts-both}
use Rattle.pnml.specs.Pnml.{pnml, Exportable}
use Rattle.pnml.specs.Singles.{singles, imported_sheet}
use Rattle.grammar.specs.declared.State.{State}
use Rattle.import.specs.scan.Kinds.{ExportOf}
use Rattle.import.specs.Parts.{counts_bytes, marks_bytes, PlacesPut, ArcsPut, SheetPut}
use Rattle.import.proofs.Answers.{arcs-few}
use Rattle.import.proofs.Singles.{head-five, counts-length, marks-length, sheet-parts, size_is, length-is}

module _ {s out : List ℕ} {q : State} {size : ℕ} (x : ExportOf s q) (few : (q.places ≤ 64) × (q.modes ≤ 64))
    (is : (size ≡ sheet_size One q.places q.modes q.places q.modes q.arcs) × (size ≤ length out)) where
  pub head-room : (Room out 0 (head_bytes One (rule_number Strong) (size - 4))) × ((4 ≤ size) × (size < 4294967296))
  head-room = (record { fits = omega (arith, head-five (size - 4), is.0, is.1) }, (omega (arith, is.0), omega (arith, is.0, few.0, few.1, arcs-few x)))

  module _ {m : List ℕ} {at : ℕ} (h : Puts out 0 (head_bytes One (rule_number Strong) (size - 4)) m at) where
    pub counts-room : (Room m at (counts_bytes q.places q.modes)) × ((q.places < 65536) × (q.modes < 65536))
    counts-room = (
      record { fits = omega (arith, h.next, h.kept, head-five (size - 4), counts-length q.places q.modes, is.0, is.1) },
      (omega (arith, few.0), omega (arith, few.1)),
    )

    module _ {n : List ℕ} {k : ℕ} (c : Puts m at (counts_bytes q.places q.modes) n k) where
      pub pairs-room : k + 8 * q.places ≤ length n
      pairs-room = omega (arith, h.next, h.kept, c.next, c.kept, head-five (size - 4), counts-length q.places q.modes, is.0, is.1)

      module _ {o : List ℕ} {read next : ℕ} (p : PlacesPut s q.places n k o read next) where
        after-pairs : (next ≡ k + 8 * q.places) × (length o ≡ length n)
        after-pairs = (omega (arith, p.puts.next, marks-length p.says.marks, p.going.made.long), p.puts.kept)

        pub total-room : (next + 2 ≤ length o) × (q.arcs < 65536)
        total-room = (
          omega (arith, after-pairs.0, after-pairs.1, h.next, h.kept, c.next, c.kept, head-five (size - 4), counts-length q.places q.modes, is.0, is.1),
          omega (arith, arcs-few x),
        )

        module _ {u : List ℕ} {i : ℕ} (t : Put o next 2 (bytes16 q.arcs) u i) where
          pub arcs-room : i + 16 * q.arcs ≤ length u
          arcs-room =
              omega (arith, t.next, t.kept, after-pairs.0, after-pairs.1, h.next, h.kept, c.next, c.kept, head-five (size - 4), counts-length q.places q.modes, is.0, is.1)

          pub sheet_put : {v : List ℕ} {end : ℕ} → ArcsPut s u i v end → SheetPut s out v end
          sheet_put {v} {end} a = record { puts = all }
            where
              all : (net : PNet) → Exportable net → s ≡ pnml net → Puts out 0 (imported_sheet net) v end
              all net e j =
                  let y = x.tells net e j in
                  let ps : pairs net ≤ 64 = omega (arith, y.pairs, few.0) in
                  let ms : modes net ≤ 64 = omega (arith, y.modes, few.1) in
                  let l : size - 4 ≡ length_of One (singles net) = omega (arith, is.0, size_is net e ps ms, length-is net e ps ms, y.pairs, y.modes, y.many) in
                  puts_as (sym (sheet-parts net e))
                  (puts-both (puts_as (ap (head_bytes One (rule_number Strong)) l) h)
                  (puts-both (puts_as (ap₂ counts_bytes y.pairs y.modes) c)
                  (puts-both (puts_as (ap marks_bytes (p.marks net e j)) p.puts) (puts-both (puts_as (ap bytes16 y.many) (put_length t)) (a.puts net e j)))))
