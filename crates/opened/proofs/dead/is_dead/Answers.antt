-- The net's refusals, then the mode.
use mathlib.Core.Path.{refl}
use Rattle.model.proofs.First.{none_then, some_then}
use Rattle.opened.specs.dead.IsDead.{dead_refusal}
use Rattle.model.proofs.Asking.{handed_on}
use Rattle.opened.proofs.dead.is_dead.Goals as goal

pub returns-in_err-net : goal.returns-in_err-net
unfolding dead_refusal
returns-in_err-net c = rw (handed_on c.from_residual.ensures, some_then _ c.in_err-net.ensures)

pub returns : goal.returns
unfolding dead_refusal
returns c = rw (none_then c.in_ok-net.ensures.0 refl, ← c.in_ok-net.ensures.1) c.mode_answer.ensures
