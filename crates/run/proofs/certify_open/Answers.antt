-- The movement sheet, or the certificate.
use Rattle.model.proofs.First.{left-none}
use Rattle.model.proofs.Asking.{goes_on, no_refusal, stops}
use Rattle.sheets.specs.Whole.{whole_movements}
use Rattle.run.proofs.certify_open.Goals as goal

pub returns-in_err-whole_movements : goal.returns-in_err-whole_movements
returns-in_err-whole_movements c = stops _ _ c.in_err-whole_movements.ensures c.from_residual.ensures

pub invariant_of-list : goal.invariant_of-list
unfolding whole_movements
invariant_of-list c = record { is_listed = left-none _ _ (no_refusal _ c.in_ok-whole_movements.ensures) }

pub returns : goal.returns
returns c =
    goes_on _ _ c.in_ok-whole_movements.ensures c.certificate_answer.ensures
