-- 4, or what the members give.
use Rattle.fire.proofs.step.Summing.{unfair_step, fair_step}
use Rattle.fire.proofs.step.members.members_answer.Goals as goal

pub returns-then-is_empty : goal.returns-then-is_empty
returns-then-is_empty c = unfair_step _ _ c.is_empty.ensures c.then-is_empty.either c.refused.ensures

pub returns : goal.returns
returns c = fair_step _ _ c.is_empty.ensures c.if-is_empty.false c.if-modes-gt64.false c.each_member.ensures
