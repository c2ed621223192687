-- The net's refusal, or what follows once it is open.
use mathlib.Core.Path.{refl}
use Rattle.model.proofs.First.{none_then, some_then}
use Rattle.run.specs.salvage.Salvaged.{salvage_refusal}
use Rattle.run.proofs.salvage.Answers.{refused}
use Rattle.model.proofs.Asking.{handed_on}
use Rattle.run.proofs.salvage.salvage.Goals as goal

pub returns-in_err-net : goal.returns-in_err-net
unfolding salvage_refusal
returns-in_err-net c = refused _ _ _ (some_then _ c.in_err-net.ensures) (handed_on c.from_residual.ensures)

pub returns : goal.returns
unfolding salvage_refusal
returns c =
    let is = c.salvage_open.ensures in
    rw (none_then c.in_ok-net.ensures.0 refl, ← c.in_ok-net.ensures.1) (is.value, is.out_after)
