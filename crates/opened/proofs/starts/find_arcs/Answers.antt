-- From the first arc of the mode to the first of a later one.
use Rattle.opened.proofs.Segments.{in_turn, segment-of}
use Rattle.opened.proofs.starts.find_arcs.Goals as goal

pub overflow_sub-result : goal.overflow_sub-result
overflow_sub-result c = in_turn _ c.args.mode _ _ c.find_start-start.ensures c.next_start-end.ensures

pub returns : goal.returns
returns c = segment-of _ _ _ _ c.find_start-start.ensures c.next_start-end.ensures
