-- The net's refusals, then the rest.
use mathlib.Core.Path.{refl}
use Rattle.model.proofs.First.{none_then, some_then}
use Rattle.complement.specs.audit.Audits.{auditing_refusal}
use Rattle.complement.proofs.audit.Answers.{finds-refused, finds-same}
use Rattle.model.proofs.Asking.{handed_on}
use Rattle.complement.proofs.audit.audit.Goals as goal

pub returns-in_err-net : goal.returns-in_err-net
unfolding auditing_refusal
returns-in_err-net c = rw (handed_on c.from_residual.ensures) (finds-refused _ (some_then _ c.in_err-net.ensures))

pub returns : goal.returns
unfolding auditing_refusal
returns c =
    finds-same _ (none_then c.in_ok-net.ensures.0 refl)
    (rw (c.bounded_below.ensures, c.in_ok-net.ensures.1) at c.audit_open.ensures)
