-- A finite K, or no finite I.
use mathlib.Core.Path.{◌∙◌}
use Rattle.complement.proofs.sections.Read.{clear_finite, clear_unbounded}
use Rattle.complement.proofs.sections.survey.arc_clear.Goals as goal

pub returns-then-is_finite : goal.returns-then-is_finite
returns-then-is_finite c = c.if-is_finite.true ∙ clear_finite c.arc-a.ensures _ c.is_finite.ensures c.if-is_finite.true c.capacity.ensures

pub returns-else-is_finite : goal.returns-else-is_finite
returns-else-is_finite c =
    clear_unbounded c.arc-a.ensures _ c.is_finite.ensures c.if-is_finite.false c.capacity.ensures c.is_finite-else-is_finite.ensures
