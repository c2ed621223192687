-- What complementing refuses, then the markings.
use Rattle.both_forms.specs.Audit.{audit_refusal}
use Rattle.model.proofs.Asking.{goes_on, stops}
use Rattle.complement.proofs.audit.refusals.audit_answer.Goals as goal

pub returns-in_err-check_net : goal.returns-in_err-check_net
unfolding audit_refusal
returns-in_err-check_net c = stops _ _ c.in_err-check_net.ensures c.from_residual.ensures

pub returns : goal.returns
unfolding audit_refusal
returns c = goes_on _ _ c.in_ok-check_net.ensures c.markings_answer.ensures
