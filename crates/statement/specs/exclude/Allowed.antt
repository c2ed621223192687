-- The contract of the public call, which the source states by this name.
use Rattle.std.specs.Prelude.{ℕ, ◌≡◌, List}
use Rattle.model.specs.Refusals.{Answer}
use Rattle.model.specs.Refusals.{answer}
use Rattle.statement.specs.exclude.Calls.{exclude_refusal}

module _ (net weights : List ℕ) where
  abbrev pub ExcludeAllows : List ℕ → Answer → Type 0
  ExcludeAllows claim told = told ≡ answer (exclude_refusal net weights claim)
