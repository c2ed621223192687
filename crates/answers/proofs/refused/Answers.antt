-- Number, position and amount are the line's, the thing is the refusal's.
use Rattle.answers.proofs.Fields.{same-fields}
use Rattle.answers.proofs.refused.Goals as goal

pub returns : goal.returns
returns c =
    let line = c.line_of-line.ensures in
    same-fields line.0 c.thing_of.ensures line.1 line.2
