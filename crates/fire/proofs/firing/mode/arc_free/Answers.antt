-- What is free where it was read is free where the net has it.
use Rattle.fire.proofs.firing.Meets.{meets_free}
use Rattle.fire.proofs.firing.mode.arc_free.Goals as goal

pub returns : goal.returns
returns c = meets_free c.meet.ensures c.is_free.ensures
