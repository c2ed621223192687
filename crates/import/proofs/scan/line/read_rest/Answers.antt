-- What follows the head, by its kind.
use Rattle.import.proofs.scan.LineKinds.{rest_of, closing-stands}
use Rattle.import.proofs.scan.line.read_rest.Goals as goal

pub returns-in-Close : goal.returns-in-Close
returns-in-Close c = rest_of c.in-Close.is (record { rest = λ at x. record { how = closing-stands c.requires.1 x } })
