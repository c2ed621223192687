-- A refusal is told as it is, with no pair and no excess.
use Rattle.answers.proofs.AuditedFromResultOptionTuple2PairI64Refusal.from.Goals as goal

pub returns-in-Err : goal.returns-in-Err
returns-in-Err c = rw (c.in-Err.is, c.none_out-in-Err.ensures, c.refused.ensures)
