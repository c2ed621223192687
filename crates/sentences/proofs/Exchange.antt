-- Export and import there and back: the text is the net's, and import is of whatever net's text it is.
use Rattle.std.specs.Prelude.{Result, Ok, Err}
use Rattle.model.specs.declared.Refusal.{Refusal}
use Prim.Native.Nat.{ℕ, ◌≤◌, ◌<◌}
use mathlib.Core.Path.{◌≡◌, refl, sym, ◌∙◌, ap, subst}
use mathlib.Core.List.{List}
use mathlib.Core.Logic.{◌⊎◌, inl, inr}
use mathlib.Core.Option.{none, some, none-ne-some}
use lib.ListN.{length, take, drop}
use lib.Seq.{take_at, drop_at}
use borrow.Author.Tests.{lt-ltb, le-ltb}
use native.Mathlib.Omega.{arith}
use Rattle.model.specs.declared.Thing.TheVariants.{Net}
use Rattle.model.specs.declared.Fault.TheVariants.{NoRoom}
use Rattle.model.specs.Refusals.{carries, wrong}
use Rattle.model.specs.Replies.{yields}
use Rattle.model.specs.Nets.{PNet, pairs, modes}
use Rattle.model.proofs.First.{left-none, right-none, none_then}
use Rattle.second_form.proofs.Demand3.{demand3}
use Rattle.sheets.specs.Whole.{whole_net}
use Rattle.sheets.specs.Decoded.{net_of}
use Rattle.sheets.specs.Emitted as emitting
use Rattle.pnml.specs.Pnml.{body, pnml, Exportable}
use Rattle.pnml.specs.Singles.{singles, imported_sheet, import_refusal}
use Rattle.pnml.proofs.ImportRefusal.{too_many_lem, short}
use Rattle.export.specs.Exports.{export_text, room_refusal, export_refusal}
use Rattle.export.specs.Allowed.{ExportPnmlAllows}
use Rattle.export.proofs.Promises.{exports-exactly, complements-exportable}
use Rattle.import.specs.Imports as importing
use Rattle.import.specs.Promises.{Small}
use Rattle.import.specs.Allowed.{ImportPnmlAllows}
use Rattle.import.proofs.Singles.{pairs-same, modes-same, singles-well, no_bound, size_is}
use Rattle.import.proofs.Promises.{of-net, imports-exactly, imported_reads_lem}
use Rattle.sentences.specs.P5.{single_bytes, ComesBack, ImportAnswers, ExportThenImport, ExportAnswers, ImportThenExport, ComplementThenExport}
use Rattle.sentences.specs.Wrote.{CallWrote, ExportWrote, WritesLength}
use Rattle.sentences.proofs.Outcomes.{writes-length, wrote-is, length-is, rest-is}
use Rattle.sentences.proofs.Accepting.{yielded}
use Rattle.sentences.proofs.Written.{can-complement, sheet-whole, sheet-same}

-- an export that answers a length leaves the text of an exportable net
module _ (net out : List ℕ) (o : Result ℕ Refusal × List ℕ) (n : ℕ) (allows : ExportPnmlAllows net out o) (e : emitting.told o.0 ≡ yields n) where
  abbrev text : List ℕ
  text = export_text net

  pub told-length : (export_refusal net (length out) ≡ none) × (n ≡ length text)
  told-length =
      yielded (λ r. emitting.told (emitting.emitted r (length text))) (length text) refl (λ r. refl) (export_refusal net (length out)) (sym (ap emitting.told allows.0) ∙ e)

  pub exportable : Exportable (net_of net)
  unfolding export_refusal room_refusal
  exportable = exports-exactly.only net (left-none _ _ told-length.0) (left-none _ _ (right-none (whole_net net) _ told-length.0))

  pub text-there : take n o.1 ≡ text
  text-there = ap (take n) (allows.1 ∙ ap (λ r. emitting.output r text out) told-length.0) ∙ take_at text (drop (length text) out) n (sym told-length.1)

-- the sheet of an exportable net is refused for want of room alone
module _ (net out : List ℕ) (o : Result ℕ Refusal × List ℕ) (allows : ExportPnmlAllows net out o) (whole : whole_net net ≡ none) (x : Exportable (net_of net)) where
  fits : length (export_text net) ≤ length out → export_refusal net (length out) ≡ none
  unfolding export_refusal room_refusal
  fits h = none_then whole (none_then (exports-exactly.all net x) (rw (le-ltb (length out) (length (export_text net)) h) refl))

  full : length out < length (export_text net) → export_refusal net (length out) ≡ some (wrong Net NoRoom)
  unfolding export_refusal room_refusal
  full h = none_then whole (none_then (exports-exactly.all net x) (rw (lt-ltb (length out) (length (export_text net)) h) refl))

  pub exports : ExportAnswers (export_text net) out o
  exports =
      let text = export_text net in
      record {
        written = λ h. (ap emitting.told (allows.0 ∙ ap (λ r. emitting.emitted r (length text)) (fits h)), allows.1 ∙ ap (λ r. emitting.output r text out) (fits h));
        too_short = λ h. ap (λ a. (emitting.told a).carried) (allows.0 ∙ ap (λ r. emitting.emitted r (length text)) (full h));
      }

-- what import answers to the export of a net
module _ (net : PNet) (x : Exportable net) (out : List ℕ) (o : Result ℕ Refusal × List ℕ) (allows : ImportPnmlAllows (pnml net) out o) where
  answer-is : o.0 ≡ importing.import_of net out
  answer-is = (of-net net x refl out o allows).0

  module _ (few : pairs net ≤ 64) (some-modes : modes net ≤ 64) where
    size : length (imported_sheet net) ≡ single_bytes net
    size = omega (arith, size_is net x few some-modes)

    comes_back_lem : single_bytes net ≤ length out → ComesBack net out o
    comes_back_lem h =
        let small : Small net = record { exportable = x; pairs = few; modes = some-modes } in
        let sheet = imported_sheet net in
        let y = imports-exactly.all net small out (omega (arith, size)) o allows in
        let back = imported_reads_lem.read_back net small in
        let there : take (single_bytes net) o.1 ≡ sheet = ap (take (single_bytes net)) y.1 ∙ take_at sheet (drop (length sheet) out) (single_bytes net) size in
        record {
          answered = ap emitting.told y.0 ∙ ap yields size;
          version = rw there back.version;
          accepted = rw there back.accepted;
          same = rw (there, back.same) (imported_reads_lem.same net x);
          untouched = ap (drop (single_bytes net)) y.1 ∙ drop_at sheet (drop (length sheet) out) (single_bytes net) size ∙ ap (λ k. drop k out) size;
        }

    too_short_lem : length out < single_bytes net → (emitting.told o.0).carried ≡ carries 10 0 0
    too_short_lem h =
        ap (λ a. (emitting.told a).carried)
        (answer-is ∙ ap (λ r. emitting.emitted r (length (imported_sheet net))) (short net (length out) few some-modes (omega (arith, size))))

  too_many-told : (64 < pairs net) ⊎ (64 < modes net) → (emitting.told o.0).carried ≡ carries 4 3 0
  too_many-told h = ap (λ a. (emitting.told a).carried) (answer-is ∙ ap (λ r. emitting.emitted r (length (imported_sheet net))) (too_many_lem net (length out) h))

  pub imports : ImportAnswers net out o
  imports = record { comes_back = comes_back_lem; too_many = too_many-told; too_short = too_short_lem }

pub export-then_import : (net out : List ℕ) (o : Result ℕ Refusal × List ℕ) (n : ℕ) → ExportPnmlAllows net out o → emitting.told o.0 ≡ yields n
    → (out' : List ℕ) (o' : Result ℕ Refusal × List ℕ) → ImportPnmlAllows (take n o.1) out' o' → ImportAnswers (net_of net) out' o'
export-then_import net out o n allows e out' o' allows' =
    imports (net_of net) (exportable net out o n allows e) out' o' (subst (λ text. ImportPnmlAllows text out' o') (text-there net out o n allows e) allows')

-- an imported net is exportable, and its text is that of the net whose export was read
module _ (net : PNet) (w : Small net) where
  singles-exportable : Exportable (singles net)
  singles-exportable =
      record {
        well_formed = singles-well net w.exportable w.pairs w.modes;
        capacities = λ p h. no_bound net p (omega (arith, pairs-same net));
        inhibitors = w.exportable.inhibitors;
      }

  same_text : pnml (singles net) ≡ pnml net
  unfolding pnml body
  same_text = rw (pairs-same net, modes-same net)

pub length-told : (a : Result ℕ Refusal) {n : ℕ} → emitting.told a ≡ yields n → a ≡ Ok n
length-told (Ok l) {n} e = let v : some l ≡ some n = ap (λ r. r.value) e in let same : l ≡ n = cc in ap Ok same
length-told (Err r) {n} e = let v : none ≡ some n = ap (λ r. r.value) e in absurd (none-ne-some n v)

pub import_then-export : (text out : List ℕ) (o : Result ℕ Refusal × List ℕ) (n : ℕ) → ImportPnmlAllows text out o → emitting.told o.0 ≡ yields n
    → (out' : List ℕ) (o' : Result ℕ Refusal × List ℕ) → ExportPnmlAllows (take n o.1) out' o' → ExportAnswers text out' o'
import_then-export text out o n allows e out' o' allows' =
    let is-length = length-told o.0 e in
    let found = imports-exactly.only text out o allows n is-length in
    let net = found.0 in
    let sheet = imported_sheet net in
    let y = imports-exactly.all net found.1 out found.3 o (subst (λ t. ImportPnmlAllows t out o) found.2 allows) in
    let lengths = sym is-length ∙ y.0 in
    let size : n ≡ length sheet = cc in
    let there : take n o.1 ≡ sheet = ap (take n) y.1 ∙ take_at sheet (drop (length sheet) out) n (sym size) in
    let back = imported_reads_lem.read_back net found.1 in
    let whole : whole_net (take n o.1) ≡ none = rw there back.accepted in
    let same : net_of (take n o.1) ≡ singles net = rw there back.same in
    subst (λ t. ExportAnswers t out' o') (ap pnml same ∙ same_text net found.1 ∙ sym found.2)
    (exports (take n o.1) out' o' allows' whole (rw same (singles-exportable net found.1)))

pub complement-then-export : ComplementThenExport
complement-then-export net sheet w out o allows =
    let same = sheet-same net sheet w in
    let x = complements-exportable (net_of net) (demand3 (net_of net) (can-complement net sheet w)).is_net in
    subst (λ t. ExportAnswers t out o) (ap pnml same) (exports sheet out o allows (sheet-whole net sheet w) (rw same x))

pub exported-back : ExportThenImport
exported-back net text w out o allows =
    export-then_import net w.out w.outcome (length text) w.allowed w.answered out o (subst (λ t. ImportPnmlAllows t out o) (sym w.written) allows)

pub imported-back : ImportThenExport
imported-back text sheet w out o allows =
    import_then-export text w.out w.outcome (length sheet) w.allowed w.answered out o (subst (λ s. ExportPnmlAllows s out o) (sym w.written) allows)

pub export-writes : (net : List ℕ) → WritesLength (ExportPnmlAllows net)
export-writes net = writes-length (ExportPnmlAllows net) (λ out. export_refusal net (length out)) (export_text net) (λ out o h. h)

pub export-text : (net text : List ℕ) → ExportWrote net text → text ≡ pnml (net_of net)
export-text net text w = wrote-is (ExportPnmlAllows net) (λ out. export_refusal net (length out)) (export_text net) (λ out o h. h) text w

-- an import that answers a length read an export, and wrote its sheet
import-writes-by : (text out left : List ℕ) (e : Result ℕ Refusal) (n : ℕ) → (h : ImportPnmlAllows text out (e, left)) → emitting.told e ≡ yields n
    → CallWrote (ImportPnmlAllows text) (take n left) × (drop n left ≡ drop n out)
import-writes-by bytes out left e n (inl x) t =
    let y = x.each x.net x.exportable x.is in
    let refusal = import_refusal x.net (length out) in
    let sheet = imported_sheet x.net in
    let f = sym (ap emitting.told y.0) ∙ t in (
      record {
        out = out;
        outcome = (e, left);
        allowed = inl x;
        answered = t ∙ ap yields (length-is refusal sheet out left y.1 f);
        written = ap (λ i. take i left) (sym (length-is refusal sheet out left y.1 f));
      },
      rest-is refusal sheet out left y.1 f,
    )
import-writes-by bytes out left e n (inr x) t =
    let v = ap (λ r. r.value) (sym (ap emitting.told x.answer) ∙ t) in absurd (none-ne-some n v)

pub import-writes : (text : List ℕ) → WritesLength (ImportPnmlAllows text)
import-writes text out left e n h t = import-writes-by text out left e n h t
