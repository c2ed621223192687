-- Version 2 alone names its rule.
use Rattle.heads.specs.Rule.{rule_of}
use Rattle.opened.proofs.rule.rule_of.Goals as goal

pub returns-in-One : goal.returns-in-One
unfolding rule_of
returns-in-One c = rw c.in-One.is

pub returns-in-Two : goal.returns-in-Two
returns-in-Two c = rw c.in-Two.is c.named_rule.ensures
