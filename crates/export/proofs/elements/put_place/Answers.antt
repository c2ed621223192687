-- The pair, then the count.
use Rattle.writes.proofs.Writing.{◌and◌}
use Rattle.pnml.specs.Pnml.{place_text}
use Rattle.export.proofs.elements.put_place.Goals as goal

pub returns : goal.returns
unfolding place_text
returns c =
    c.write_bytes-id.ensures and c.write_three-marking.ensures and c.write_bytes-number.ensures
    and c.write_to_eight-end.ensures and c.write_bytes.ensures
