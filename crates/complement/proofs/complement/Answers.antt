-- The net's refusals, then those of an open net.
use mathlib.Core.Path.{refl}
use Rattle.model.proofs.First.{none_then, some_then}
use Rattle.sheets.proofs.Emits.{refused}
use Rattle.complement.specs.Complemented.{complementing_refusal}
use Rattle.model.proofs.Asking.{handed_on}
use Rattle.complement.proofs.complement.Goals as goal

pub returns-in_err-net : goal.returns-in_err-net
unfolding complementing_refusal
returns-in_err-net c = rw (handed_on c.from_residual.ensures) (refused _ _ _ (some_then _ c.in_err-net.ensures))

pub returns : goal.returns
unfolding complementing_refusal
returns c = rw (none_then c.in_ok-net.ensures.0 refl, ← c.in_ok-net.ensures.1, ← c.bounded_below.ensures) (c.complement_open.ensures.value, c.complement_open.ensures.out_after)
