-- One place; what is none leaves nothing.
use Rattle.import.proofs.LineWrites.{line_read, placed, no_place}
use Rattle.import.proofs.places.write_place.Goals as goal

pub returns-in_err-step : goal.returns-in_err-step
returns-in_err-step c = rw c.from_residual.ensures (no_place c.read_line.ensures _ c.in_err-step.ensures.value (λ n m e. cc))

pub returns : goal.returns
returns c = placed (line_read c.read_line.ensures c.in_ok-step.ensures.value c.in-Placed.is) c.put_pair-end.ensures c.after_place.ensures
