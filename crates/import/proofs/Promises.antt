-- What the contract of the import says, and that it allows one outcome.
use Rattle.std.specs.Prelude.{Result, Ok, Err}
use Prim.Native.Nat.{ℕ, zero, suc, ◌≤◌, ◌<◌}
use mathlib.Core.Path.{◌≡◌, refl, sym, ◌∙◌, ap, ap₂, subst}
use mathlib.Core.List.{List, [], ◌++◌}
use mathlib.Core.Logic.{inl, inr, ⊎_elim, ◌≢◌}
use mathlib.Core.Option.{Option}
use lib.ListN.{length, drop, length-append}
use native.Mathlib.Omega.{arith}
use Rattle.model.specs.declared.Thing.TheVariants.{Net}
use Rattle.model.specs.declared.Fault.TheVariants.{NotAnExport}
use Rattle.model.specs.declared.Refusal.{Refusal}
use Rattle.model.specs.declared.Version.TheVariants.{One}
use Rattle.model.specs.Lists.{joined}
use Rattle.model.specs.Nets.{PNet, pairs, modes, count}
use Rattle.model.specs.Refusals.{wrong}
use Rattle.model.proofs.First.{below_or}
use Rattle.sheets.proofs.written.RoundTrip.{written-then-read}
use Rattle.sheets.specs.Emitted.{emitted, told, output}
use Rattle.pnml.specs.Agrees.{FirstNone}
use Rattle.pnml.specs.Pnml.{opening, closing, place_text, mode_text, body, pnml, Exportable, Refused20}
use Rattle.pnml.specs.Singles.{singles, imported_sheet, import_refusal}
use Rattle.pnml.proofs.ImportRefusal.{roomy, Way, many, full, whole, way}
use Rattle.grammar.proofs.parts.Steps.{agrees-fewer}
use Rattle.grammar.proofs.Generated.{total-some}
use Rattle.import.specs.Imports.{import_of, output_of}
use Rattle.import.specs.Allowed.{ImportPnmlAllows}
use Rattle.import.specs.Promises.{RefusedExactly, Small, ImportsExactly, ImportedReads}
use Rattle.import.proofs.Singles.{pairs-same, modes-same, singles-well, no_bound}

-- there is one place from which no export agrees
first-once : {I : Type 0} {texts : I → List ℕ} {s : List ℕ} {at n m : ℕ} → FirstNone texts s at n → FirstNone texts s at m → n ≡ m
first-once {n = n} {m = m} a b =
    ⊎_elim (λ (l : n < m). absurd (a.none b.one.0 (agrees-fewer (omega arith) b.one.1)))
    (λ (l : m ≤ n). ⊎_elim (λ (k : m < n). absurd (b.none a.one.0 (agrees-fewer (omega arith) a.one.1))) (λ (k : n ≤ m). omega arith) (below_or m n))
    (below_or n m)

pub once : {text : List ℕ} {n m : ℕ} → Refused20 text n → Refused20 text m → n ≡ m
once a b = first-once a.first b.first

outcome : {A B : Type 0} {a c : A} {b d : B} → a ≡ c → b ≡ d → ◌≡◌ {A = A × B} (a, b) (c, d)
outcome {A} {B} e f = ap₂ {C = A × B} (λ x y. (x, y)) e f

pub import_once : (text out : List ℕ) (o o' : Result ℕ Refusal × List ℕ) → ImportPnmlAllows text out o → ImportPnmlAllows text out o' → o ≡ o'
import_once text out o o' (inl x) (inl y) =
    let e = x.each x.net x.exportable x.is in
    let f = y.each x.net x.exportable x.is in
    outcome (e.0 ∙ sym f.0) (e.1 ∙ sym f.1)
import_once text out o o' (inl x) (inr y) = absurd (y.refused.no_export x.net x.exportable x.is)
import_once text out o o' (inr x) (inl y) = absurd (x.refused.no_export y.net y.exportable y.is)
import_once text out o o' (inr x) (inr y) =
    let e = once x.refused y.refused in
    outcome (x.answer ∙ ap (λ n. Err (wrong Net (NotAnExport n))) e ∙ sym y.answer) (x.kept ∙ sym y.kept)

-- an answer that tells another number is another answer
abbrev number_of : Result ℕ Refusal → ℕ
number_of a = (told a).carried.number

abbrev position_of : Result ℕ Refusal → ℕ
position_of a = (told a).carried.position

pub answered : (net : PNet) (out : List ℕ) {a : Result ℕ Refusal} {o : Option Refusal} → a ≡ import_of net out → import_refusal net (length out) ≡ o → a ≡ emitted o (length (imported_sheet net))
answered net out e f = e ∙ ap (λ o. emitted o (length (imported_sheet net))) f

pub left : (net : PNet) (out : List ℕ) {now : List ℕ} {o : Option Refusal} → now ≡ output_of net out → import_refusal net (length out) ≡ o → now ≡ output o (imported_sheet net) out
left net out e f = e ∙ ap (λ o. output o (imported_sheet net) out) f

refused-only : (text out : List ℕ) (o : Result ℕ Refusal × List ℕ) → ImportPnmlAllows text out o → (at : ℕ) → o.0 ≡ Err (wrong Net (NotAnExport at)) → Refused20 text at
refused-only text out o (inr x) at e = subst (λ n. Refused20 text n) (ap position_of (sym x.answer ∙ e)) x.refused
refused-only text out o (inl x) at e = go (way x.net (length out))
  where
    is : o.0 ≡ import_of x.net out
    is = (x.each x.net x.exportable x.is).0

    go : Way x.net (length out) → Refused20 text at
    go (many h r) = absurd (omega (arith, ap number_of (sym (answered x.net out is r) ∙ e)))
    go (full p m h r) = absurd (omega (arith, ap number_of (sym (answered x.net out is r) ∙ e)))
    go (whole p m h r) = absurd (omega (arith, ap number_of (sym (answered x.net out is r) ∙ e)))

pub refused-exactly : RefusedExactly
refused-exactly = record { only = refused-only; all = all }
  where
    all : (text out : List ℕ) (o : Result ℕ Refusal × List ℕ) → ImportPnmlAllows text out o → (at : ℕ) → Refused20 text at → o.0 ≡ Err (wrong Net (NotAnExport at))
    all text out o (inl x) at r = absurd (r.no_export x.net x.exportable x.is)
    all text out o (inr x) at r = x.answer ∙ ap (λ n. Err (wrong Net (NotAnExport n))) (once x.refused r)

imports-only : (text out : List ℕ) (o : Result ℕ Refusal × List ℕ) → ImportPnmlAllows text out o → (n : ℕ) → o.0 ≡ Ok n
    → (net : PNet) × (Small net) × (text ≡ pnml net) × (length (imported_sheet net) ≤ length out)
imports-only text out o (inr x) n e = absurd (omega (arith, ap number_of (sym x.answer ∙ e)))
imports-only text out o (inl x) n e = go (way x.net (length out))
  where
    is : o.0 ≡ import_of x.net out
    is = (x.each x.net x.exportable x.is).0

    go : Way x.net (length out) → (net : PNet) × (Small net) × (text ≡ pnml net) × (length (imported_sheet net) ≤ length out)
    go (many h r) = absurd (omega (arith, ap number_of (sym (answered x.net out is r) ∙ e)))
    go (full p m h r) = absurd (omega (arith, ap number_of (sym (answered x.net out is r) ∙ e)))
    go (whole p m h r) = (x.net, record { exportable = x.exportable; pairs = p; modes = m }, x.is, h)

-- of a net's export the answer and the output are that net's
pub of-net : (net : PNet) → Exportable net → {text : List ℕ} → text ≡ pnml net → (out : List ℕ) (o : Result ℕ Refusal × List ℕ) → ImportPnmlAllows text out o
    → (o.0 ≡ import_of net out) × (o.1 ≡ output_of net out)
of-net net e is out o (inl x) = x.each net e is
of-net net e is out o (inr x) = absurd (x.refused.no_export net e is)

imports-all : (net : PNet) → Small net → (out : List ℕ) → length (imported_sheet net) ≤ length out → (o : Result ℕ Refusal × List ℕ) → ImportPnmlAllows (pnml net) out o
    → (o.0 ≡ Ok (length (imported_sheet net))) × (o.1 ≡ imported_sheet net ++ drop (length (imported_sheet net)) out)
imports-all net w out h o allows =
    let r = roomy net (length out) w.pairs w.modes h in
    let e = of-net net w.exportable refl out o allows in
    (answered net out e.0 r, left net out e.1 r)

pub imports-exactly : ImportsExactly
imports-exactly = record { only = imports-only; all = imports-all }

pub imported_reads_lem : ImportedReads
imported_reads_lem =
    record {
      read_back = λ net w. written-then-read One (singles net) (singles-well net w.exportable w.pairs w.modes) (λ _. refl);
      same = λ net e.
          record {
            capacities = λ p h. no_bound net p h ∙ sym (e.capacities p h);
            start = refl;
            arcs = refl;
            places = refl;
            transitions = refl;
            modes = modes-same net;
            pairs = pairs-same net;
          };
    }

-- a refused import leaves the output as it was
pub import_kept : (text out : List ℕ) (o : Result ℕ Refusal × List ℕ) → ImportPnmlAllows text out o → (told o.0).carried.number ≢ 0 → o.1 ≡ out
import_kept text out o (inr x) h = x.kept
import_kept text out o (inl x) h = go (way x.net (length out))
  where
    is : (o.0 ≡ import_of x.net out) × (o.1 ≡ output_of x.net out)
    is = x.each x.net x.exportable x.is

    go : Way x.net (length out) → o.1 ≡ out
    go (many l r) = left x.net out is.1 r
    go (full p m l r) = left x.net out is.1 r
    go (whole p m l r) = absurd (h (ap number_of (answered x.net out is.0 r)))

-- an export has a line for its first place between its opening and its closing
places-some : (n : ℕ) (start : List ℕ) → 1 ≤ n → 1 ≤ length (joined n (λ p. place_text p (count start p)))
unfolding joined place_text
places-some zero start h = absurd (omega arith)
places-some (suc n) start h = rw length-append (omega arith)

pub between : (net : PNet) → Exportable net → length (opening ++ closing) < length (pnml net)
unfolding pnml body
between net e =
    let w = e.well_formed in
    let places = joined (pairs net) (λ p. place_text p (count net.start p)) in
    let lines = joined (modes net) (mode_text net.arcs) in
    omega (
      arith,
      length-append opening closing,
      length-append opening ((places ++ lines) ++ closing),
      length-append (places ++ lines) closing,
      length-append places lines,
      places-some (pairs net) net.start (total-some net.colours w.some_place w.places),
    )

pub refuses-none : (out : List ℕ) (o : Result ℕ Refusal × List ℕ) → ImportPnmlAllows [] out o → (told o.0).carried.number ≢ 0
refuses-none out o (inr x) e = omega (arith, ap number_of x.answer)
refuses-none out o (inl x) e = omega (arith, ap length x.is, between x.net x.exportable)
