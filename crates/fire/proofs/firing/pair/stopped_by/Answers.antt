-- No number is above the one that means unbounded.
use mathlib.Core.Path.{◌∙◌}
use native.Mathlib.Omega.{arith}
use Rattle.fire.proofs.firing.AtBounds.{above-by-bound}
use Rattle.fire.proofs.firing.pair.stopped_by.Goals as goal

pub returns-in-OverCapacity : goal.returns-in-OverCapacity
returns-in-OverCapacity c =
    rw (c.in-OverCapacity.is, ← c.with_post.ensures) (c.saturating_sub-in-OverCapacity.ensures ∙ above-by-bound _ _ (omega arith))

pub returns-in-Inhibited : goal.returns-in-Inhibited
returns-in-Inhibited c = rw c.in-Inhibited.is (c.saturating_sub-in-Inhibited.ensures ∙ above-by-bound _ _ (omega arith))
