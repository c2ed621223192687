-- The net's refusal, or 17 and the first marking once it is open.
use Rattle.fire.specs.Calls.{begin_refusal}
use Rattle.fire.proofs.Opening.{sheet-leaves, open_leaves}
use Rattle.model.proofs.Asking.{handed_on}
use Rattle.fire.proofs.begin.Goals as goal

pub returns-in_err-net : goal.returns-in_err-net
unfolding begin_refusal
returns-in_err-net c = rw (handed_on c.from_residual.ensures) (let l = sheet-leaves _ _ c.in_err-net.ensures in
    (l.answers, l.leaves))

pub returns : goal.returns
unfolding begin_refusal
returns c =
    let l = open_leaves _ _ c.in_ok-net.ensures.0 (rw c.in_ok-net.ensures.1 at c.begin_open.ensures) in
    (l.answers, l.leaves)
