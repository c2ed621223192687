-- The pair, and then the weight.
use mathlib.Core.Path.{refl}
use native.Mathlib.Omega.{arith}
use Rattle.grammar.proofs.HandedOn.{handed_on}
use Rattle.import.specs.scan.Kinds.{ends_text, arc_tail}
use Rattle.grammar.specs.parts.Parts.{Within, valued}
use Rattle.grammar.proofs.parts.Reading.{both_stand, both-stop, first_stops}
use Rattle.import.proofs.scan.LineKinds.{arc-stops}
use Rattle.import.proofs.scan.arc.read_arc.Goals as goal

pub returns-in_err-pair : goal.returns-in_err-pair
returns-in_err-pair c =
    arc-stops (handed_on c.from_residual.ensures) (first_stops _ _ (λ _ w. Within 1 w) (λ p w. valued (ends_text _ _ p) arc_tail w) c.in_err-pair.ensures.how (λ j o. (1, (omega arith, omega arith))))

pub returns-in_err-weight : goal.returns-in_err-weight
returns-in_err-weight c =
    let y = (c.in_err-weight.ensures _ _ arc_tail refl c.compare_ends-ends.ensures).how in
    arc-stops (handed_on c.from_residual-in_err-weight.ensures) (both-stop _ _ (λ _ w. Within 1 w) (λ p w. valued (ends_text _ _ p) arc_tail w) c.in_ok-pair.ensures.how y)

pub returns : goal.returns
returns c =
    let y = (c.in_ok-weight.ensures _ _ arc_tail refl c.compare_ends-ends.ensures).how in
    record { how = both_stand _ _ (λ _ w. Within 1 w) (λ p w. valued (ends_text _ _ p) arc_tail w) c.in_ok-pair.ensures.how y }
