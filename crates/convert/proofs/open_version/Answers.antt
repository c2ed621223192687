-- The head, then the version byte, then the sheet as any call reads it.
use mathlib.Core.Path.{sym, ◌∙◌}
use native.Mathlib.Omega.{arith}
use Rattle.model.specs.declared.Thing.TheVariants.{Net}
use Rattle.model.proofs.First.{some_then}
use Rattle.model.proofs.Refusals.{answer-refused}
use Rattle.model.proofs.Asking.{handed_on, no_refusal}
use Rattle.heads.proofs.Heads.{head-holds}
use Rattle.convert.specs.Converted.{of_version}
use Rattle.convert.proofs.Answers.{read-on, stops}
use Rattle.convert.proofs.open_version.Goals as goal

pub returns-in_err-read_head : goal.returns-in_err-read_head
unfolding of_version
returns-in_err-read_head c =
    rw (handed_on c.from_residual.ensures) (some_then _ (answer-refused _ (sym c.in_err-read_head.ensures)))

pub bounds-s-4 : goal.bounds-s-4
bounds-s-4 c = omega (arith, head-holds Net _ (no_refusal _ c.in_ok-read_head.ensures))

pub returns-then-s-version_byte : goal.returns-then-s-version_byte
returns-then-s-version_byte c =
    stops _ _ (no_refusal _ c.in_ok-read_head.ensures) (λ e. c.if-s-version_byte.true (e ∙ sym c.version_byte.ensures))

pub returns : goal.returns
returns c = rw (read-on _ _ (λ h. c.if-s-version_byte.false ∙ c.version_byte.ensures)) c.open_net.ensures
