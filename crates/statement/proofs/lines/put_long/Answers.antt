-- The one word.
use Rattle.statement.specs.lines.Lines.{line, long_line}
use Rattle.statement.proofs.lines.put_long.Goals as goal

pub returns : goal.returns
unfolding line long_line
returns c = c.write_bytes.ensures
