-- A space, then the number.
use native.Mathlib.Omega.{arith}
use Rattle.text.proofs.Decimals.{length-at-most}
use Rattle.writes.proofs.Writing.{◌and◌}
use Rattle.statement.proofs.lines.words.next_decimal.Goals as goal

pub write_decimal-requires : goal.write_decimal-requires
write_decimal-requires c = omega (arith, length-at-most c.args.n 19 (omega arith))

pub returns : goal.returns
returns c =
    c.write_byte-word.ensures and c.write_decimal.ensures
