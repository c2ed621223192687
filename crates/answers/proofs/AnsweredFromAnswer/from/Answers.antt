-- A refusal is told as it is.
use Rattle.answers.proofs.AnsweredFromAnswer.from.Goals as goal

pub returns-in-Err : goal.returns-in-Err
returns-in-Err c = rw c.in-Err.is c.refused.ensures
