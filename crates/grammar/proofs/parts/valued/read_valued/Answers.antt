-- What stood before, a number and what follows it.
use Rattle.grammar.proofs.HandedOn.{handed_on}
use Rattle.grammar.proofs.parts.Values.{reads-stop, before-part, number-none, value-part, value-whole, whole_of, part_of, tail-part-after, tail-whole-after}
use Rattle.grammar.proofs.parts.valued.read_valued.Goals as goal

pub returns-in_err-at : goal.returns-in_err-at
returns-in_err-at c = λ at d rest e₀ x. reads-stop (handed_on c.from_residual.ensures) (before-part d _ c.requires (part_of x c.in_err-at.was))

pub returns-in_err-value : goal.returns-in_err-value
returns-in_err-value c = λ at d rest e₀ x.
    reads-stop (handed_on c.from_residual-in_err-value.ensures) (number-none d _ (whole_of x c.in_ok-at.was) c.in_err-value.ensures)

pub returns-in_err-end : goal.returns-in_err-end
returns-in_err-end c = λ at d rest e₀ x.
    let f = c.in_ok-value.ensures in
    let y = rw e₀ at c.in_err-end.ensures in
    reads-stop (handed_on c.from_residual-in_err-end.ensures) (value-part d _ (whole_of x c.in_ok-at.was) f (tail-part-after f y.how))

pub returns : goal.returns
returns c = λ at d rest e₀ x.
    let f = c.in_ok-value.ensures in
    let y = rw e₀ at c.in_ok-end.ensures in
    record { how = value-whole d _ (whole_of x c.in_ok-at.was) f (tail-whole-after f y.how) }
