-- A refusal is told as it is, with no mode and no pair.
use Rattle.answers.proofs.NamedFromResultOptionTuple2ModePairRefusal.from.Goals as goal

pub returns-in-Err : goal.returns-in-Err
returns-in-Err c = rw (c.in-Err.is, c.nothing_found-in-Err.ensures, c.refused.ensures)
