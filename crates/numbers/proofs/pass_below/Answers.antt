-- The least of the three highest counts, and one more; or never.
use mathlib.Core.Path.{sym}
use Rattle.numbers.proofs.Bounds.{never-passes, passes-below}
use Rattle.numbers.proofs.pass_below.Goals as goal

pub returns-then-capacity-arc : goal.returns-then-capacity-arc
returns-then-capacity-arc c = sym (never-passes c.args.arc _ c.requires c.if-capacity-arc.true)

pub returns : goal.returns
returns c =
    rw (c.min.ensures, c.min-kept.ensures) (sym (passes-below c.args.arc _ c.requires c.if-capacity-arc.false))
