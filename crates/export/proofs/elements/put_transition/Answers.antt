-- The mode.
use Rattle.writes.proofs.Writing.{◌and◌}
use Rattle.pnml.specs.Pnml.{transition_text}
use Rattle.export.proofs.elements.put_transition.Goals as goal

pub returns : goal.returns
unfolding transition_text
returns c =
    c.write_bytes-id.ensures and c.write_three-end.ensures and c.write_bytes.ensures
