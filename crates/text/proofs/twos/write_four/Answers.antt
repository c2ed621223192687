-- One half after the other.
use Rattle.text.proofs.twos.TwoDigits.{last-cut}
use Rattle.writes.proofs.Writing.{◌and◌}
use Rattle.text.proofs.twos.write_four.Goals as goal

pub returns : goal.returns
returns c =
    rw (last-cut 2 2 c.args.n) (c.write_two-middle.ensures and c.write_two.ensures)
