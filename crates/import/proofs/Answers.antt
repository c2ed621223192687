-- 4, then 10, or the sheet, of whatever net's export the text is.
use Rattle.std.specs.Prelude.{Result, Ok, Err}
use Prim.Native.Nat.{ℕ, ◌≤◌, ◌<◌}
use mathlib.Core.Path.{◌≡◌, refl, ap}
use mathlib.Core.List.{List}
use mathlib.Core.Logic.{◌⊎◌, inl, inr, ⊎_elim}
use mathlib.Core.Option.{Option, none, some}
use lib.ListN.{length}
use native.Mathlib.Omega.{arith}
use Rattle.model.specs.declared.Thing.TheVariants.{Net, Argument}
use Rattle.model.specs.declared.Fault.TheVariants.{CountOutside, NoRoom}
use Rattle.model.specs.declared.Refusal.{Refusal}
use Rattle.model.specs.declared.Version.TheVariants.{One}
use Rattle.model.specs.Nets.{PNet}
use Rattle.model.specs.Refusals.{wrong}
use Rattle.sheets.specs.written.Puts.{sheet_size}
use Rattle.sheets.proofs.written.Puts.{from_start}
use Rattle.sheets.specs.Emitted.{emitted, output}
use Rattle.pnml.specs.Pnml.{pnml, Exportable}
use Rattle.pnml.specs.Singles.{imported_sheet}
use Rattle.pnml.proofs.ImportRefusal.{too_many_lem, short, roomy}
use Rattle.grammar.specs.declared.State.{State}
use Rattle.import.specs.scan.Kinds.{ExportOf}
use Rattle.import.specs.Parts.{SheetPut, ImportedAs}
use Rattle.import.proofs.Singles.{size_is}

refused : {o : Option Refusal} {r : Refusal} {a : Result ℕ Refusal} (n : ℕ) (sheet found : List ℕ) → a ≡ Err r → o ≡ some r → (a ≡ emitted o n) × (found ≡ output o sheet found)
refused n sheet found i e = rw (e, i) (refl, refl)

module _ {s : List ℕ} {q : State} (x : ExportOf s q) where
  pub arcs-few : q.arcs ≤ 2048
  arcs-few = omega (arith, (x.tells x.net x.exportable x.text).many, x.exportable.well_formed.arc_count)

  pub imported-many : {out : List ℕ} {a : Result ℕ Refusal} → (64 < q.places) ⊎ (64 < q.modes) → a ≡ Err (wrong Argument (CountOutside 0)) → ImportedAs s out a out
  imported-many {out} h i =
      record {
        each = λ net e is.
            let t = x.tells net e is in
            refused (length (imported_sheet net)) (imported_sheet net) out i
            (too_many_lem net (length out) (⊎_elim (λ (l : 64 < q.places). inl (omega (arith, t.pairs))) (λ (l : 64 < q.modes). inr (omega (arith, t.modes))) h));
      }

  module _ {size : ℕ} (few : q.places ≤ 64) (some-modes : q.modes ≤ 64) (is-size : size ≡ sheet_size One q.places q.modes q.places q.modes q.arcs) where
    sized : (net : PNet) → Exportable net → s ≡ pnml net → length (imported_sheet net) ≡ size
    sized net e is =
        let t = x.tells net e is in
        omega (arith, size_is net e (omega (arith, t.pairs)) (omega (arith, t.modes)), t.pairs, t.modes, t.many)

    pub imported-short : {out : List ℕ} {a : Result ℕ Refusal} → length out < size → a ≡ Err (wrong Net NoRoom) → ImportedAs s out a out
    imported-short {out} h i =
        record {
          each = λ net e is.
              let t = x.tells net e is in
              refused (length (imported_sheet net)) (imported_sheet net) out i (short net (length out) (omega (arith, t.pairs)) (omega (arith, t.modes)) (omega (arith, sized net e is)));
        }

    pub imported-whole : {out now : List ℕ} {after : ℕ} → size ≤ length out → SheetPut s out now after → ImportedAs s out (Ok after) now
    imported-whole {out} {now} {after} h p =
        record {
          each = λ net e is.
              let t = x.tells net e is in
              let y = p.puts net e is in
              let n : after ≡ length (imported_sheet net) = omega (arith, y.next) in
              written (imported_sheet net) (roomy net (length out) (omega (arith, t.pairs)) (omega (arith, t.modes)) (omega (arith, sized net e is))) n (from_start y.written (omega (arith, sized net e is)));
        }
      where
        written : {o : Option Refusal} (sheet : List ℕ) → o ≡ none → after ≡ length sheet → now ≡ output none sheet out → (Ok after ≡ emitted o (length sheet)) × (now ≡ output o sheet out)
        written sheet e n j = rw e (ap Ok n, j)
