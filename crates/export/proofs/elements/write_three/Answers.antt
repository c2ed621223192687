-- Three bytes.
use Rattle.writes.proofs.Writing.{◌and◌}
use Rattle.pnml.specs.Pnml.{three}
use Rattle.export.proofs.elements.write_three.Goals as goal

pub returns : goal.returns
unfolding three
returns c =
    c.write_byte-ten.ensures and c.write_byte-one.ensures and c.write_byte.ensures
