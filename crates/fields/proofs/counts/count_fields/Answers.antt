-- The two counts, then each of the counts that they announce.
use Rattle.fields.specs.Fields.{count_fields}
use Rattle.fields.proofs.RunningTotals.{sized}
use Rattle.model.proofs.Asking.{goes_on, no_refusal, stops}
use Rattle.fields.proofs.counts.count_fields.Goals as goal

pub returns-in_err-read_count : goal.returns-in_err-read_count
unfolding count_fields
returns-in_err-read_count c =
    stops _ _ (rw c.fields_at-at.ensures.0 at c.in_err-read_count.ensures) c.from_residual.ensures

pub returns-in_err-read_count-2 : goal.returns-in_err-read_count-2
unfolding count_fields
returns-in_err-read_count-2 c =
    let at = c.fields_at-at.ensures.0 in
    goes_on _ _ (rw at at c.in_ok-read_count.ensures)
    (stops _ _ (rw at at c.in_err-read_count-2.ensures) c.from_residual-in_err-read_count-2.ensures)

pub each_count-requires : goal.each_count-requires
each_count-requires c =
    let at = c.fields_at-at.ensures.0 in
    sized _ c.args.sheet.now.headed (no_refusal _ (rw at at c.in_ok-read_count.ensures))
    (no_refusal _ (rw at at c.in_ok-read_count-2.ensures))

pub returns : goal.returns
unfolding count_fields
returns c =
    let at = c.fields_at-at.ensures.0 in
    goes_on _ _ (rw at at c.in_ok-read_count.ensures)
    (goes_on _ _ (rw at at c.in_ok-read_count-2.ensures) c.each_count.ensures)
