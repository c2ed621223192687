-- The text of `replay` in a slice that the caller lends: 10, "the output slice is shorter than it", exactly where the slice has less than 262,144 bytes,
-- whatever the input; and no input of bytes has a longer text.
use Rattle.model.specs.declared.Refusal.{Refusal}
use Rattle.std.specs.Prelude.{ℕ, ◌≤◌, ◌<◌, ◌≡◌, List, ◌↔◌, length, Result}
use Rattle.model.specs.Refusals.{carries}
use Rattle.sheets.specs.Emitted.{told}
use Rattle.statement.specs.Allowed.{StatementAllows}
use Rattle.statement.specs.Replay.{replay_text}
use Rattle.answers.specs.declared.Counted.{Counted}
use Rattle.abi.specs.Allowed as for_c
use Rattle.promises.specs.EqualNets.{Bytes}

-- what is told is a refusal's where the slice is shorter, and an acceptance's where it is not
pub record ByRoom {A : Type 0} (told refused accepted : A) (out : List ℕ) : Type 0 where
  pub short : (told ≡ refused) ↔ (length out < 262144)
  pub enough : (told ≡ accepted) ↔ (262144 ≤ length out)

pub record TextRoom : Type 0 where
  pub statement : (input out : List ℕ) (o : Result ℕ Refusal × List ℕ) → StatementAllows input out o
      → ByRoom (told o.0).carried (carries 10 0 0) (carries 0 0 0) out
  pub statement_for_c : (input out : List ℕ) (o : Counted × List ℕ) → for_c.StatementAllows input out o → ByRoom o.0.answer.number 10 0 out
  -- so many bytes hold every text
  pub longest : (input : List ℕ) → Bytes input → length (replay_text input) ≤ 262144
