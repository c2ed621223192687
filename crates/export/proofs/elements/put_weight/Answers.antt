-- The weight between its words.
use Rattle.writes.proofs.Writing.{◌and◌}
use Rattle.pnml.specs.Pnml.{weight_text}
use Rattle.export.proofs.elements.put_weight.Goals as goal

pub returns : goal.returns
unfolding weight_text
returns c =
    c.write_bytes-number.ensures and c.write_to_eight-end.ensures and c.write_bytes.ensures
