-- The lesser of two, twice.
use Rattle.damaged.proofs.Considered.{considered-are}
use Rattle.damaged.proofs.count_considered.Goals as goal

pub returns : goal.returns
returns c = considered-are c.args.s.now c.min-end.result _ (rw (← c.sheet_end.ensures) c.min-end.ensures) c.min.ensures
