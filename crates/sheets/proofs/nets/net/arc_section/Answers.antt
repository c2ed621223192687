-- By the version.
use mathlib.Core.Path.{sym, ◌∙◌}
use Rattle.sheets.specs.nets.Nets.{arc_section}
use Rattle.sheets.proofs.nets.net.arc_section.Goals as goal

pub returns-in-One : goal.returns-in-One
unfolding arc_section
returns-in-One c =
    rw (sym c.version_of.ensures ∙ c.in-One.is) c.arc_fields.ensures

pub returns-in-Two : goal.returns-in-Two
unfolding arc_section
returns-in-Two c =
    rw (sym c.version_of.ensures ∙ c.in-Two.is) c.group_fields.ensures
