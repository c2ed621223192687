-- 20, 4 and 10, each exactly where its row has it.
use Rattle.std.specs.Prelude.{Result}
use Prim.Native.Nat.{ℕ, ◌+◌, ◌<◌}
use mathlib.Core.Path.{◌≡◌, refl, sym, ◌∙◌, ap}
use mathlib.Core.List.{List}
use mathlib.Core.Logic.{◌⊎◌, inl, inr, ⊎_elim, ◌≢◌}
use mathlib.Core.Option.{Option, none, some}
use lib.ListN.{length}
use native.Mathlib.Omega.{arith}
use Rattle.model.specs.declared.Thing.TheVariants.{Net, Argument}
use Rattle.model.specs.declared.Fault.TheVariants.{NotAnExport, CountOutside}
use Rattle.model.specs.declared.Refusal.{Refusal}
use Rattle.model.specs.Nets.{PNet, pairs, modes}
use Rattle.model.specs.Refusals.{answer, wrong, Carried, carries, carried}
use Rattle.model.specs.RefusalTables.{Table, row, ◌then◌, each, Silent, Gives, Reads}
use Rattle.sheets.specs.Emitted.{emitted, refusal_of}
use Rattle.pnml.specs.Pnml.{pnml, Exportable, Refused20}
use Rattle.pnml.specs.Singles.{imported_sheet, import_refusal}
use Rattle.pnml.proofs.ImportRefusal.{too_many_lem, Way, many, full, whole, way}
use Rattle.import.specs.Allowed.{OfExport, OfNone}
use Rattle.import.specs.RefusalTable.{ExportOfSome, import_table, ImportTable}
use Rattle.import.proofs.Promises.{once, answered}

some_not : {o : Option Refusal} {r : Refusal} → o ≡ some r → o ≢ none
some_not e f = let x = sym e ∙ f in let z : ◌≡◌ {A = ℕ} 0 1 = cc in absurd (omega arith)

-- a table of rows for 0, 1, .. and then two more: which row an answer is read from
module _ (n : ℕ) (A : ℕ → Type 0) (a : ℕ → Carried) (B C : Type 0) (b c : Carried) where
  abbrev rows : Table
  rows = each n (λ i. row (A i) (a i)) then row B b then row C c

  abbrev No : Type 0
  No = (i : ℕ) → i < n → ¬ A i

  abbrev Numbered : Carried → Type 0
  Numbered given = (i : ℕ) × (i < n) × ((j : ℕ) → j < i → ¬ A j) × (A i × (a i ≡ given))

  abbrev Later : Carried → Type 0
  Later given = (B × (b ≡ given)) ⊎ ((¬ B) × (C × (c ≡ given)))

  module _ (o : Option Refusal) where
    abbrev Told : Carried → Type 0
    Told given = (o ≢ none) × (carried (answer o) ≡ given)

    first_rows : {r : Refusal} (i : ℕ) → i < n → A i → ((j : ℕ) → A j → j ≡ i) → o ≡ some r → carried (answer o) ≡ a i → Reads rows o
    unfolding Silent Gives
    first_rows i l x only e f =
        record {
          accepted = (λ h. absurd (some_not e h), λ h. absurd (h.0 i l x));
          refused = λ given. (λ h. inl (i, l, (λ j k y. omega (arith, only j y)), (x, sym f ∙ h.1)), λ g. ⊎_elim (here given) (λ (y : No × Later given). absurd (y.0 i l x)) g);
        }
      where
        here : (given : Carried) → Numbered given → Told given
        here given y = (some_not e, f ∙ ap a (sym (only y.0 y.3.0)) ∙ y.3.1)

    second-row : {r : Refusal} → No → B → o ≡ some r → carried (answer o) ≡ b → Reads rows o
    unfolding Silent Gives
    second-row off x e f =
        record {
          accepted = (λ h. absurd (some_not e h), λ h. absurd (h.1.0 x));
          refused = λ given. (λ h. inr (off, inl (x, sym f ∙ h.1)), λ g. ⊎_elim (λ (y : Numbered given). absurd (off y.0 y.1 y.3.0)) (λ (y : No × Later given). later given y.1) g);
        }
      where
        later : (given : Carried) → Later given → Told given
        later given y = ⊎_elim (λ (z : B × (b ≡ given)). (some_not e, f ∙ z.1)) (λ (z : (¬ B) × (C × (c ≡ given))). absurd (z.0 x)) y

    third-row : {r : Refusal} → No → ¬ B → C → o ≡ some r → carried (answer o) ≡ c → Reads rows o
    unfolding Silent Gives
    third-row off d x e f =
        record {
          accepted = (λ h. absurd (some_not e h), λ h. absurd (h.1.1 x));
          refused = λ given.
              (λ h. inr (off, inr (d, (x, sym f ∙ h.1))), λ g. ⊎_elim (λ (y : Numbered given). absurd (off y.0 y.1 y.3.0)) (λ (y : No × Later given). later given y.1) g);
        }
      where
        later : (given : Carried) → Later given → Told given
        later given y = ⊎_elim (λ (z : B × (b ≡ given)). absurd (d z.0)) (λ (z : (¬ B) × (C × (c ≡ given))). (some_not e, f ∙ z.1.1)) y

    silent-rows : No → ¬ B → ¬ C → o ≡ none → Reads rows o
    unfolding Silent Gives
    silent-rows off d h e =
        record {
          accepted = (λ _. (off, (d, h)), λ _. e);
          refused = λ given.
              (λ x. absurd (x.0 e), λ g. ⊎_elim (λ (y : Numbered given). absurd (off y.0 y.1 y.3.0)) (λ (y : No × Later given). later given y.1) g);
        }
      where
        later : (given : Carried) → Later given → Told given
        later given y = ⊎_elim (λ (z : B × (b ≡ given)). absurd (d z.0)) (λ (z : (¬ B) × (C × (c ≡ given))). absurd (h z.1.0)) y

abbrev Many : List ℕ → Type 0
Many text = ExportOfSome text (λ net. (64 < pairs net) ⊎ (64 < modes net))

abbrev Short : List ℕ → ℕ → Type 0
Short text room = ExportOfSome text (λ net. room < length (imported_sheet net))

module _ {text out : List ℕ} {o : Result ℕ Refusal × List ℕ} where
  none_reads : OfNone text out o → Reads (import_table text (length out)) (refusal_of o.0)
  none_reads x =
      let is : refusal_of o.0 ≡ some (wrong Net (NotAnExport x.at)) = ap refusal_of x.answer in
      first_rows (length text + 1) (Refused20 text) (carries 20 0) (Many text) (Short text (length out)) (carries 4 3 0) (carries 10 0 0) (refusal_of o.0) x.at (omega (arith, x.refused.first.one.1.in_run)) x.refused
      (λ j y. once y x.refused) is (ap (λ z. carried (answer z)) is)

  module _ (x : OfExport text out o) where
    no_20 : (n : ℕ) → n < length text + 1 → ¬ Refused20 text n
    no_20 n l r = r.no_export x.net x.exportable x.is

    -- what is refused of one net with this export is refused of every other
    refusal-of : (net : PNet) → Exportable net → text ≡ pnml net → {r : Option Refusal} → import_refusal net (length out) ≡ r → refusal_of o.0 ≡ r
    refusal-of net e i {r} f = ap refusal_of (answered net out (x.each net e i).0 f) ∙ told r
      where
        told : (r : Option Refusal) → refusal_of (emitted r (length (imported_sheet net))) ≡ r
        told none = refl
        told (some r) = refl

    many-told : Many text → refusal_of o.0 ≡ some (wrong Argument (CountOutside 0))
    many-told y = refusal-of y.0 y.1 y.2 (too_many_lem y.0 (length out) y.3)

    -- no room for the sheet of some such net: 4 or 10
    short-told : Short text (length out) → refusal_of o.0 ≢ none
    short-told y = go (way y.0 (length out))
      where
        go : Way y.0 (length out) → refusal_of o.0 ≢ none
        go (many h r) = some_not (refusal-of y.0 y.1 y.2 r)
        go (full p m h r) = some_not (refusal-of y.0 y.1 y.2 r)
        go (whole p m h r) = absurd (omega (arith, y.3))

    export-reads : Way x.net (length out) → Reads (import_table text (length out)) (refusal_of o.0)
    export-reads (many h f) =
        let is = many-told (x.net, x.exportable, x.is, h) in
        second-row (length text + 1) (Refused20 text) (carries 20 0) (Many text) (Short text (length out)) (carries 4 3 0) (carries 10 0 0) (refusal_of o.0) no_20 (x.net, x.exportable, x.is, h) is (ap (λ z. carried (answer z)) is)
    export-reads (full p m h f) =
        let is = refusal-of x.net x.exportable x.is f in
        third-row (length text + 1) (Refused20 text) (carries 20 0) (Many text) (Short text (length out)) (carries 4 3 0) (carries 10 0 0) (refusal_of o.0) no_20
        (λ y. omega (arith, ap (λ z. (carried (answer z)).number) (sym is ∙ many-told y))) (x.net, x.exportable, x.is, h) is (ap (λ z. carried (answer z)) is)
    export-reads (whole p m h f) =
        let is = refusal-of x.net x.exportable x.is f in
        silent-rows (length text + 1) (Refused20 text) (carries 20 0) (Many text) (Short text (length out)) (carries 4 3 0) (carries 10 0 0) (refusal_of o.0) no_20 (λ y. some_not (many-told y) is) (λ y. short-told y is) is

pub import_table_lem : ImportTable
import_table_lem text out o (inl x) = export-reads x (way x.net (length out))
import_table_lem text out o (inr x) = none_reads x
