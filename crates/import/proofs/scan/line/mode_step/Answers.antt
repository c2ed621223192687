-- A transition after its head.
use Rattle.grammar.proofs.HandedOn.{handed_on}
use Rattle.grammar.proofs.parts.Literals.{◌and◌}
use Rattle.import.proofs.scan.LineKinds.{transition-stands, transition-stops, step-not}
use Rattle.import.proofs.scan.line.mode_step.Goals as goal

pub returns-in_err-next : goal.returns-in_err-next
returns-in_err-next c =
    let w = c.then_three-number.ensures.how c.requires.0 and c.in_err-next.ensures in
    record { rest = λ at x. step-not (handed_on c.from_residual.ensures) (transition-stops c.requires.1 x w.how) }

pub returns : goal.returns
returns c =
    let w = c.then_three-number.ensures.how c.requires.0 and c.in_ok-next.ensures in
    record { rest = λ at x. record { how = transition-stands c.requires.1 x w.how } }
