use Rattle.model.specs.Nets.{rule_number}
use Rattle.model.proofs.U8FromCapacityRule.from.Goals as goal

pub returns-in-Strong : goal.returns-in-Strong
unfolding rule_number
returns-in-Strong c = rw c.in-Strong.is

pub returns-in-Weak : goal.returns-in-Weak
unfolding rule_number
returns-in-Weak c = rw c.in-Weak.is
