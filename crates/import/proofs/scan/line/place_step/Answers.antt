-- A place after its head.
use Rattle.grammar.proofs.HandedOn.{handed_on}
use Rattle.import.proofs.scan.LineKinds.{place-stands, place-stops, step-not}
use Rattle.import.proofs.scan.line.place_step.Goals as goal

pub returns-in_err-count : goal.returns-in_err-count
returns-in_err-count c = record { rest = λ at x. step-not (handed_on c.from_residual.ensures) (place-stops c.requires.1 x c.in_err-count.ensures.how) }

pub returns : goal.returns
returns c = record { rest = λ at x. record { how = place-stands c.requires.1 x c.in_ok-count.ensures.how } }
