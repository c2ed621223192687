-- The net's refusals, then its size.
use Rattle.model.proofs.Asking.{handed_on}
use Rattle.opened.proofs.size.size.Goals as goal

pub returns-in_err-net : goal.returns-in_err-net
returns-in_err-net c = rw (handed_on c.from_residual.ensures, c.in_err-net.ensures)

pub returns : goal.returns
returns c = rw (c.in_ok-net.ensures.0, ← c.in_ok-net.ensures.1) (rw c.size_of.ensures)
