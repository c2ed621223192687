-- The damaged bytes' refusal, or what the run of them lets keep.
use mathlib.Core.Path.{sym, ap}
use lib.ListN.{length}
use native.Mathlib.Omega.{arith}
use Rattle.model.proofs.First.{some_then}
use Rattle.model.proofs.Refusals.{answer-refused}
use Rattle.model.proofs.Asking.{handed_on, no_refusal}
use Rattle.sheets.specs.Emitted.{too_short}
use Rattle.damaged.proofs.Considered.{legible}
use Rattle.run.specs.salvage.Salvaged.{report, fresh_sheet}
use Rattle.run.proofs.salvage.Answers.{kept-part, refused, goes_on}
use Rattle.run.proofs.salvage.salvage_open.Goals as goal

pub returns-in_err-read_damaged : goal.returns-in_err-read_damaged
returns-in_err-read_damaged c =
    let a = c.args in
    let is =
    refused (report a.net.now.sheet.now a.damaged.now) (fresh_sheet a.net.now.sheet.now a.damaged.now) a.out.now
    (some_then (too_short (fresh_sheet a.net.now.sheet.now a.damaged.now) (length a.out.now)) (answer-refused _ (sym c.in_err-read_damaged.ensures)))
    (handed_on c.from_residual.ensures)
    in
    record { value = is.0; out_after = is.1 }

pub count_considered-count-requires : goal.count_considered-count-requires
count_considered-count-requires c = legible _ (no_refusal _ c.in_ok-read_damaged.ensures)

pub run_considered-ran-requires : goal.run_considered-ran-requires
run_considered-ran-requires c = record { legible = legible _ (no_refusal _ c.in_ok-read_damaged.ensures); count_value = c.count_considered-count.ensures }

pub write_kept-requires : goal.write_kept-requires
write_kept-requires c =
    let a = c.args in
    let accepted = ap (λ r. r.accepted) c.run_considered-ran.ensures in
    record {
      legible = legible _ (no_refusal _ c.in_ok-read_damaged.ensures);
      count_value = (c.count_considered-count.ensures, omega (arith, accepted, c.count_considered-count.ensures, kept-part a.net.now.sheet.now a.damaged.now));
    }

pub returns : goal.returns
returns c =
    let a = c.args in
    let last = c.write_kept.ensures in
    let passed = no_refusal _ c.in_ok-read_damaged.ensures in
    let is = goes_on a.net.now.sheet.now a.damaged.now a.out.now passed c.run_considered-ran.ensures (last.value, last.out_after) in
    record { value = is.0; out_after = is.1 }
