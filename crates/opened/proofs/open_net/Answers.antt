-- The whole sheet's refusal, or its shape.
use mathlib.Core.Path.{sym, refl}
use native.Mathlib.Omega.{arith}
use Rattle.model.proofs.First.{left-none}
use Rattle.model.proofs.Refusals.{answer-refused}
use Rattle.model.proofs.Asking.{handed_on, no_refusal}
use Rattle.sheets.specs.Whole.{whole_net}
use Rattle.opened.proofs.open_net.Goals as goal

pub invariant_of-result : goal.invariant_of-result
unfolding whole_net
invariant_of-result c = record { is_open = record { accepted = left-none _ _ (no_refusal _ c.in_ok-whole_net.ensures); shape = c.shape_of.ensures }; are_bytes = λ i. omega (arith, c.type_inv.s i) }

pub shape_of-requires : goal.shape_of-requires
unfolding whole_net
shape_of-requires c = left-none _ _ (no_refusal _ c.in_ok-whole_net.ensures)

pub returns-in_err-whole_net : goal.returns-in_err-whole_net
returns-in_err-whole_net c = rw (handed_on c.from_residual.ensures) (answer-refused _ (sym c.in_err-whole_net.ensures))

pub returns : goal.returns
returns c = (no_refusal _ c.in_ok-whole_net.ensures, refl)
