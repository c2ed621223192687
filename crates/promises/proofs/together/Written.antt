-- What a call wrote is what its promises speak of.
use Rattle.std.specs.Prelude.{Result, Ok, Err}
use Rattle.model.specs.declared.Refusal.{Refusal}
use Prim.Native.Nat.{ℕ}
use mathlib.Core.Path.{◌≡◌, sym, ◌∙◌, ap, subst}
use mathlib.Core.List.{List}
use mathlib.Core.Option.{none, some, none-ne-some}
use lib.ListN.{length, take}
use Rattle.model.specs.Replies.{yields}
use Rattle.second_form.specs.Complement.{complement}
use Rattle.second_form.specs.DemandThree.{Complementable}
use Rattle.sheets.specs.Whole.{whole_net}
use Rattle.sheets.specs.Decoded.{net_of}
use Rattle.sheets.specs.Emitted.{told}
use Rattle.complement.specs.Complemented.{complement_of, complementing_refusal}
use Rattle.run.specs.declared.salvage.Report.{Report}
use Rattle.run.specs.salvage.Salvaged as salvaging
use Rattle.run.specs.salvage.Allowed.{SalvageAllows}
use Rattle.run.specs.salvage.Promises.{AllBytes, Salvages}
use Rattle.run.proofs.salvage.Promises.{salvaged-runs}
use Rattle.promises.specs.DemandThree.{as_written}
use Rattle.promises.specs.TwoRuns.{RunAlike}
use Rattle.promises.proofs.DemandThree.{complementable}
use Rattle.promises.proofs.TwoRuns.{length-accepted, written, net-accepted, two_runs_lem}
use Rattle.promises.specs.together.Wrote.{ComplementWrote, SalvageWrote}

module _ (net sheet : List ℕ) (w : ComplementWrote net sheet) where
  pub answers : told (complement_of net w.out) ≡ yields (length sheet)
  answers = sym (ap told w.allowed.0) ∙ w.answered

  pub is-written : as_written net w.out (length sheet) ≡ sheet
  is-written = ap (take (length sheet)) (sym w.allowed.1) ∙ w.written

  pub accepts : complementing_refusal net (length w.out) ≡ none
  accepts = length-accepted (complementing_refusal net (length w.out)) _ answers

  pub can-complement : Complementable (net_of net)
  can-complement = complementable net (length w.out) accepts

  pub net-whole : whole_net net ≡ none
  net-whole = net-accepted net (length w.out) accepts

  pub sheet-whole : whole_net sheet ≡ none
  sheet-whole = rw is-written at (written net w.out accepts answers).reads_back

  pub sheet-same : net_of sheet ≡ complement (net_of net)
  sheet-same = rw is-written at (written net w.out accepts answers).same

  pub run-alike : RunAlike net sheet
  run-alike = subst (λ s. RunAlike net s) is-written (two_runs_lem net w.out (length sheet) answers)

-- a reply with a report is one that was written
wrote : (o : Result Report Refusal) {report : Report} → salvaging.told o ≡ yields report → o ≡ Ok report
wrote (Ok x) {report} e = let v : some x ≡ some report = ap (λ r. r.value) e in cc
wrote (Err r) {report} e = let v : none ≡ some report = ap (λ r. r.value) e in absurd (none-ne-some report v)

module _ (net damaged sheet : List ℕ) (report : Report) (w : SalvageWrote net damaged sheet report) where
  pub salvage-allowed : SalvageAllows net damaged w.out (Ok report, w.outcome.1)
  salvage-allowed = (sym (wrote w.outcome.0 w.answered) ∙ w.allowed.0, w.allowed.1)

  pub salvages : AllBytes damaged → Salvages net damaged sheet report
  salvages bytes = subst (λ s. Salvages net damaged s report) w.written (salvaged-runs net damaged w.out w.outcome.1 report bytes salvage-allowed)
