-- The record as found, or with one ship more.
use mathlib.Core.Path.{◌∙◌}
use Rattle.model.proofs.Asking.{handed_on}
use Rattle.statement.proofs.fleet.Entering.{leaves, keeps}
use Rattle.statement.proofs.fleet.add_ship.Goals as goal

pub returns-in_err-lent : goal.returns-in_err-lent
returns-in_err-lent c =
    let left = leaves _ _ c.in_err-lent.ensures in
    (handed_on c.from_residual.ensures ∙ left.0, left.1)

pub returns : goal.returns
returns c = keeps _ _ c.in_ok-lent.ensures
