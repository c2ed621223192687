-- The two bytes of the table.
use Rattle.text.proofs.twos.TwoDigits.{two-read}
use Rattle.writes.proofs.Writing.{◌and◌}
use Rattle.text.proofs.twos.write_two.Goals as goal

pub returns : goal.returns
returns c =
    rw (two-read c.args.twos.now.digits_are c.requires.n_bound) (c.write_byte-middle.ensures and c.write_byte.ensures)
