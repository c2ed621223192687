-- After the version, or after the rule.
use borrow.Author.Rules.{rules}
use mathlib.Core.Path.{sym, ◌∙◌, ap}
use Rattle.heads.specs.Layout.{fields_from, fields_at}
use Rattle.heads.proofs.head.fields_at.Goals as goal

pub returns-in-One : goal.returns-in-One
unfolding fields_at
returns-in-One c = (ap fields_from (sym c.in-One.is ∙ c.version_of.ensures), search rules)

pub returns-in-Two : goal.returns-in-Two
unfolding fields_at
returns-in-Two c = (ap fields_from (sym c.in-Two.is ∙ c.version_of.ensures), search rules)
