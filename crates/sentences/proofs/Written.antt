-- What a call wrote is what its promises speak of.
use Rattle.std.specs.Prelude.{Result, Ok, Err}
use Rattle.model.specs.declared.Refusal.{Refusal}
use Prim.Native.Nat.{ℕ}
use mathlib.Core.Path.{◌≡◌, sym, ◌∙◌, ap, subst}
use mathlib.Core.List.{List}
use mathlib.Core.Option.{none, some, none-ne-some}
use lib.ListN.{length}
use Rattle.sentences.specs.Bytes.{Bytes}
use Rattle.model.specs.Replies.{yields}
use Rattle.second_form.specs.Complement.{complement}
use Rattle.second_form.specs.DemandThree.{Complementable}
use Rattle.sheets.specs.Whole.{whole_net}
use Rattle.sheets.specs.Decoded.{net_of}
use Rattle.heads.specs.Version.{version_of}
use Rattle.sheets.specs.Emitted.{told}
use Rattle.complement.specs.Allowed.{ComplementAllows}
use Rattle.complement.specs.Complemented.{complement_sheet, complementing_refusal}
use Rattle.run.specs.declared.salvage.Report.{Report}
use Rattle.run.specs.salvage.Salvaged as salvaging
use Rattle.run.specs.salvage.Allowed.{SalvageAllows}
use Rattle.run.specs.salvage.Promises.{Salvages}
use Rattle.run.proofs.salvage.Promises.{salvaged-runs}
use Rattle.sentences.proofs.DemandThree.{net-accepted, complementable, reads-back}
use Rattle.sentences.proofs.Outcomes.{length-accepted, wrote-is}
use Rattle.sentences.specs.Wrote.{ComplementWrote, SalvageWrote}

module _ (net sheet : List ℕ) (w : ComplementWrote net sheet) where
  abbrev room : ℕ
  room = length w.out

  pub accepts : complementing_refusal net room ≡ none
  accepts = length-accepted (complementing_refusal net room) _ (sym (ap told w.allowed.0) ∙ w.answered)

  pub sheet-is : sheet ≡ complement_sheet net
  sheet-is = wrote-is (ComplementAllows net) (λ out. complementing_refusal net (length out)) (complement_sheet net) (λ out o h. h) sheet w

  pub net-whole : whole_net net ≡ none
  net-whole = net-accepted net room accepts

  pub can-complement : Complementable (net_of net)
  can-complement = complementable net room accepts

  pub sheet-whole : whole_net sheet ≡ none
  sheet-whole = ap whole_net sheet-is ∙ (reads-back net can-complement).accepted

  pub sheet-same : net_of sheet ≡ complement (net_of net)
  sheet-same = ap net_of sheet-is ∙ (reads-back net can-complement).same

  pub sheet-version : version_of sheet ≡ version_of net
  sheet-version = ap version_of sheet-is ∙ (reads-back net can-complement).version

-- a reply with a report is one that was written
pub wrote : (o : Result Report Refusal) {report : Report} → salvaging.told o ≡ yields report → o ≡ Ok report
wrote (Ok x) {report} e = let v : some x ≡ some report = ap (λ r. r.value) e in cc
wrote (Err r) {report} e = let v : none ≡ some report = ap (λ r. r.value) e in absurd (none-ne-some report v)

module _ (net damaged sheet : List ℕ) (report : Report) (w : SalvageWrote net damaged sheet report) where
  pub salvage-allowed : SalvageAllows net damaged w.out (Ok report, w.outcome.1)
  salvage-allowed = (sym (wrote w.outcome.0 w.answered) ∙ w.allowed.0, w.allowed.1)

  pub salvages-so : Bytes damaged → Salvages net damaged sheet report
  salvages-so bytes = subst (λ s. Salvages net damaged s report) w.written (salvaged-runs net damaged w.out w.outcome.1 report bytes salvage-allowed)
