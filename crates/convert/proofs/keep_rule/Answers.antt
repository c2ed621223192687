-- 23 for version 1 and the weak rule alone.
use Rattle.convert.specs.Converted.{lost_rule}
use Rattle.convert.proofs.keep_rule.Goals as goal

pub returns-in-One-Weak : goal.returns-in-One-Weak
unfolding lost_rule
returns-in-One-Weak c = rw (c.in-One-Weak.is-0, c.in-One-Weak.is-1) c.refused.ensures

pub returns-in_default : goal.returns-in_default
unfolding lost_rule
returns-in_default c = rw (c.in_default.is-0, c.in_default.is-1)

pub returns-in_default-2 : goal.returns-in_default-2
unfolding lost_rule
returns-in_default-2 c = rw c.in_default.is-0
