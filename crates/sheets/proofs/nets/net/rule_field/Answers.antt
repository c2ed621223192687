-- Version 2 alone has a rule byte.
use mathlib.Core.Path.{sym, ◌∙◌}
use Rattle.sheets.specs.nets.Nets.{rule_field}
use Rattle.sheets.proofs.nets.net.rule_field.Goals as goal

pub returns-in-One : goal.returns-in-One
unfolding rule_field
returns-in-One c = rw (sym c.version_of.ensures ∙ c.in-One.is)

pub returns-in-Two : goal.returns-in-Two
returns-in-Two c = rw (sym c.version_of.ensures ∙ c.in-Two.is) c.read_rule.ensures
