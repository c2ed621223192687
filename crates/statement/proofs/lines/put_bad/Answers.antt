-- The word, the thing, the number and the position.
use Rattle.statement.proofs.lines.Worded.{bad_worded}
use Rattle.statement.proofs.lines.put_bad.Goals as goal

pub returns : goal.returns
returns c =
    let named = c.thing_of in
    let told = c.line_of-line in
    bad_worded c.args.refusal told.result.number told.result.position told.ensures.0 told.ensures.1 named.result named.ensures
    c.write_bytes-word.ensures c.next_decimal-first.ensures c.next_decimal-second.ensures c.last_decimal.ensures
