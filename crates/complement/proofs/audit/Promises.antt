-- The promise about an audit.
use mathlib.Core.Path.{◌≡◌, sym, ◌∙◌, ap}
use mathlib.Core.Option.{none, some}
use Rattle.both_forms.specs.Audit.{audited}
use Rattle.model.proofs.First.{right-none}
use Rattle.both_forms.proofs.OutOfStep.{audit-finds}
use Rattle.sheets.specs.Decoded.{net_of}
use Rattle.opened.specs.Shape.{arc_offset}
use Rattle.complement.specs.audit.Audits.{auditing_refusal}
use Rattle.complement.specs.audit.Promises.{SaysAudited}
use Rattle.complement.proofs.audit.OneEach.{one_each_lem}
use Rattle.complement.proofs.audit.Answers.{told-found}

pub says-audited : SaysAudited
unfolding auditing_refusal
says-audited net marking beside e =
    let is = ap (λ r. r.value) (told-found (audited (net_of net) marking beside) e) in
    let each = one_each_lem (net_of net) marking beside (arc_offset net) (right-none _ _ e) in
    let says = audit-finds (net_of net) marking beside in
    record {
      nothing = (
        λ h. (says.nothing each.here each.there).0 (let g : some (audited (net_of net) marking beside) ≡ some none = sym is ∙ h in cc),
        λ c. is ∙ ap some ((says.nothing each.here each.there).1 c),
      );
      at = λ p. (
        λ h. (says.at p).0 (let g : some (audited (net_of net) marking beside) ≡ some (some _) = sym is ∙ h in cc),
        λ l. is ∙ ap some ((says.at p).1 l),
      );
    }
