-- Within both bounds, and 15 does not stop it.
use borrow.Author.Tests.{leb-true}
use Prim.Native.Nat.{◌≤◌}
use mathlib.Core.Path.{sym, ◌∙◌}
use native.Mathlib.Omega.{arith}
use Rattle.second_form.specs.Complement.{finite}
use Rattle.fields.specs.Numbers.{bound}
use Rattle.complement.proofs.sections.Plain.{bounds_spare, none_where_finite}
use Rattle.complement.proofs.sections.survey.is_plain.Goals as goal
use Rattle.complement.proofs.sections.survey.is_plain.Goals.{then-arc, else-arc}

pub returns-then-is_finite : goal.returns-then-is_finite
returns-then-is_finite c _ =
    elim c.if-arc.branch [
      | then-arc w ↦ (
        bounds_spare _ _ _ _ w.if-arc.true (leb-true _ _ (sym w.value-is ∙ c.if-arc-most.true)),
        none_where_finite (finite (bound c.args.arc.inhibitor)) _ (sym c.is_finite.ensures ∙ c.if-is_finite.true),
      )
      | else-arc w ↦ let h : c.args.arc.pre ≤ c.args.arc.inhibitor = leb-true _ _ (sym w.value-is ∙ c.if-arc-most.true) in absurd (omega arith)
    ]
