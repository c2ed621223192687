-- The net's refusal, or what is left to test and write once it is open.
use Rattle.fire.specs.Calls.{test_refusal}
use Rattle.fire.proofs.Opening.{sheet-leaves, open_leaves}
use Rattle.model.proofs.Asking.{handed_on}
use Rattle.fire.proofs.fire.Goals as goal

pub returns-in_err-net : goal.returns-in_err-net
unfolding test_refusal
returns-in_err-net c = rw (handed_on c.from_residual.ensures) (let l = sheet-leaves _ _ c.in_err-net.ensures in
    (l.answers, l.leaves))

pub returns : goal.returns
unfolding test_refusal
returns c =
    let l = open_leaves _ _ c.in_ok-net.ensures.0 (rw c.in_ok-net.ensures.1 at c.fire_open.ensures) in
    (l.answers, l.leaves)
