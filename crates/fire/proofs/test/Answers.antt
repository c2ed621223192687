-- The net's refusal, or what is left to test once it is open.
use Rattle.fire.specs.Calls.{test_refusal}
use Rattle.fire.proofs.Opening.{sheet-refused, sheet_open}
use Rattle.model.proofs.Asking.{handed_on}
use Rattle.fire.proofs.test.Goals as goal

pub returns-in_err-net : goal.returns-in_err-net
unfolding test_refusal
returns-in_err-net c = rw (handed_on c.from_residual.ensures) (sheet-refused _ _ c.in_err-net.ensures)

pub returns : goal.returns
unfolding test_refusal
returns c =
    sheet_open _ _ c.in_ok-net.ensures.0 (rw c.in_ok-net.ensures.1 at c.test_open.ensures)
