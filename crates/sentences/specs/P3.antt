-- Document 02, P3. Say how much is short.
use Rattle.std.specs.Prelude.{◌<◌, ◌≡◌, ◌⊎◌}
use Rattle.model.specs.Refusals.{Answer}
use Rattle.model.specs.Refusals.{number, amount}
use Rattle.statement.specs.Example.{Printed}
use Rattle.sentences.specs.ConstantAnswers.{ConstantAmounts}
use Rattle.sentences.specs.CallTables.{CallTables}

pub record P3 : Type 0 where
  -- "how many tokens are lacking (11), over capacity (12), over the inhibitor (13) or over the counter's limit (14) at the named pair": see `mode_table`, `step_table` of demand 1.
  -- "Every answer now carries this amount, 0 for all other numbers."
  pub other_numbers : (a : Answer) → (number a < 11) ⊎ (14 < number a) → amount a ≡ 0
  pub constant_amounts : ConstantAmounts
  -- "Everything that passes a refusal upward passes the amount too.": `each`, `run_stops` and `salvage_stops` of the tables
  pub passed : CallTables
  -- "`replay` prints it as a fifth field of a `refused` line, so its example reads `refused 4 0 11 0 1`."
  pub printed : Printed
