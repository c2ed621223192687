-- One half after the other.
use Rattle.text.proofs.twos.TwoDigits.{last-cut}
use Rattle.writes.proofs.Writing.{◌and◌}
use Rattle.text.proofs.twos.write_eight.Goals as goal

pub returns : goal.returns
returns c =
    rw (last-cut 4 4 c.args.n) (c.write_four-middle.ensures and c.write_four.ensures)
