-- The mode, then the pair.
use Rattle.writes.proofs.Writing.{◌and◌}
use Rattle.export.proofs.elements.put_name.Goals as goal

pub returns : goal.returns
returns c =
    c.write_three-and.ensures and c.write_bytes-next.ensures and c.write_three.ensures
