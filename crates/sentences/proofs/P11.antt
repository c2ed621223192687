-- Salvage by outcomes (document 02, P11).
use Prim.Native.Nat.{ℕ}
use mathlib.Core.Path.{◌≡◌, sym, ◌∙◌, ap}
use mathlib.Core.List.{List}
use mathlib.Core.Option.{some, none-ne-some}
use lib.ListN.{length}
use Rattle.model.specs.declared.Refusal.{Refusal}
use Rattle.model.specs.Refusals.{Answer}
use Rattle.std.specs.Prelude.{Err}
use Rattle.model.specs.Refusals.{answer, number}
use Rattle.sheets.specs.Emitted.{output}
use Rattle.run.specs.declared.salvage.Report.{Report}
use Rattle.run.specs.salvage.Salvaged.{salvage_refusal, fresh_sheet, report}
use Rattle.run.proofs.salvage.Promises.{report-told}
use lib.Seq.{take-append_seam, drop-append_seam}
use Rattle.sentences.specs.Bytes.{Bytes}
use Rattle.sentences.specs.Wrote.{SalvageWrote}
use Rattle.sentences.specs.P11.{Salvages, SalvageWrites}
use Rattle.sentences.proofs.Accepting.{number-none}
use Rattle.sentences.proofs.Outcomes.{zero-accepted, run-accepts}
use Rattle.sentences.proofs.Written.{wrote, salvages-so}

refused-not : (r : Refusal) {a : Answer} → a ≡ Err r → ¬ (number a ≡ 0)
refused-not r e z = none-ne-some r (sym (number-none (some r) (sym (ap number e) ∙ z)))

pub salvages : (net damaged sheet : List ℕ) (report : Report) → Bytes damaged → SalvageWrote net damaged sheet report → Salvages net damaged sheet report
salvages net damaged sheet report bytes w =
    let s = salvages-so net damaged sheet report w bytes in
    record {
      accepted = s.accepted;
      leading = s.leading;
      runs_whole = run-accepts net sheet _ s.runs_whole;
      no_longer = λ d r left h.
          let stop = s.no_longer d in
          let is = ap (λ r. r.answer) h.0 ∙ ap answer stop.2.stops in
          (is ∙ sym stop.1, refused-not stop.0 is);
      counted = s.counted;
      stopless = (λ z. s.stopless.0 (zero-accepted _ z), λ d. ap number (s.stopless.1 d));
    }

pub salvage-writes : SalvageWrites
salvage-writes net damaged out left o r h e =
    let k = report-told (salvage_refusal net damaged (length out)) (sym (wrote o e) ∙ h.0) in
    let sheet = fresh_sheet net damaged in
    let is = h.1 ∙ ap (λ o. output o sheet out) k.0 in
    rw (k.1, is) (ap length (take-append_seam sheet _), drop-append_seam sheet _)
