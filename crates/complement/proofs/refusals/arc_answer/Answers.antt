-- A finite I, then an unbounded K.
use mathlib.Core.Path.{refl, sym, ◌∙◌, ap}
use mathlib.Core.Bool.{not}
use Rattle.model.proofs.Refusals.{answer-last-passes, answer-last_fails}
use Rattle.complement.proofs.sections.Read.{inhibits_is}
use Rattle.complement.proofs.refusals.arc_answer.Goals as goal
use Rattle.complement.proofs.refusals.arc_answer.Goals.{else-is_finite-via-then-is_finite+else-not-is_finite, else-is_finite-via-else-is_finite}

pub returns-then-not-is_finite : goal.returns-then-not-is_finite
returns-then-not-is_finite c =
    answer-last_fails
    (inhibits_is c.arc-a.ensures (sym c.is_finite.ensures ∙ c.if-is_finite.true)
    (rw (← c.capacity.ensures) (ap not (sym c.is_finite-then-is_finite.ensures ∙ c.if-not-is_finite.true))))
    (rw (← c.arc_offset.ensures) c.refused.ensures)

pub returns : goal.returns
returns c =
    elim c.else-is_finite.branch [
      | else-is_finite-via-then-is_finite+else-not-is_finite w ↦
          answer-last-passes _
          (inhibits_is c.arc-a.ensures (sym c.is_finite.ensures ∙ w.if-is_finite.true)
          (rw (← w.capacity.ensures) (ap not (sym w.is_finite-then-is_finite.ensures ∙ w.if-not-is_finite.false))))
      | else-is_finite-via-else-is_finite w ↦ answer-last-passes _ (inhibits_is c.arc-a.ensures (sym c.is_finite.ensures ∙ w.if-is_finite.false) refl)
    ]
