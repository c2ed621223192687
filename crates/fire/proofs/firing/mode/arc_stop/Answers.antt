-- The test at the arc's pair, and the pair and amount that a refusal names.
use Rattle.fire.proofs.firing.Meets.{stop-found, stop-passed}
use Rattle.fire.proofs.firing.mode.arc_stop.Goals as goal

pub returns-then-is_stopped : goal.returns-then-is_stopped
returns-then-is_stopped c =
    stop-found c.meet-at.ensures _ _ c.is_stopped.ensures c.if-is_stopped.true c.stopped_by.ensures
    c.refused.ensures

pub returns : goal.returns
returns c = stop-passed c.meet-at.ensures _ _ c.is_stopped.ensures c.if-is_stopped.false
