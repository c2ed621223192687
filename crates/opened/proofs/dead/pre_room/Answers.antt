-- By each rule.
use Rattle.opened.proofs.dead.pre_room.Goals as goal

pub returns-in-Strong : goal.returns-in-Strong
returns-in-Strong c = rw c.in-Strong.is c.less.ensures

pub returns-in-Weak : goal.returns-in-Weak
returns-in-Weak c = rw c.in-Weak.is
