-- K, or K + Pre.
use Rattle.fire.proofs.firing.AtBounds.{bound-more}
use Rattle.fire.proofs.firing.pair.room.Goals as goal

pub returns-in-Weak : goal.returns-in-Weak
returns-in-Weak c = rw (c.in-Weak.is, c.saturating_add.ensures) (bound-more _ _ c.requires)
