-- The contract of the public call, which the source states by this name: what it allows of its answer and of the slice that it leaves.
use Rattle.model.specs.declared.Refusal.{Refusal}
use Rattle.std.specs.Prelude.{ℕ, ◌≡◌, List, Result}
use Rattle.statement.specs.Replay.{stated, stated_in}

abbrev pub StatementAllows : List ℕ → List ℕ → Result ℕ Refusal × List ℕ → Type 0
StatementAllows input out o = (o.0 ≡ stated input out) × (o.1 ≡ stated_in input out)
