-- A refusal, or the search.
use mathlib.Core.Path.{sym, ◌∙◌}
use Rattle.model.proofs.Refusals.{answer-refused}
use Rattle.model.proofs.Asking.{handed_on, no_refusal}
use Rattle.complement.proofs.audit.OneEach.{one_each_lem}
use Rattle.complement.proofs.audit.Answers.{finds-refused, finds-all}
use Rattle.complement.proofs.audit.audit_open.Goals as goal

pub find-requires : goal.find-requires
find-requires c = record { one_each = one_each_lem _ _ _ _ (no_refusal _ c.in_ok-audit_answer.ensures) }

pub returns-in_err-audit_answer : goal.returns-in_err-audit_answer
returns-in_err-audit_answer c = handed_on c.from_residual.ensures ∙ finds-refused _ (answer-refused _ (sym c.in_err-audit_answer.ensures))

pub returns : goal.returns
returns c = finds-all _ (no_refusal _ c.in_ok-audit_answer.ensures) c.find.ensures
