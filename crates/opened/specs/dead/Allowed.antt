-- The contracts of the public calls, which the source states by these names.
use Rattle.model.specs.declared.Pair.{Pair}
use Rattle.model.specs.declared.Refusal.{Refusal}
use Rattle.std.specs.Prelude.{Bool, Option as Perhaps, ℕ, ◌≡◌, List, Result}
use Rattle.model.specs.declared.Mode.{Mode}
use Rattle.opened.specs.dead.IsDead.{deadness_of}
use Rattle.opened.specs.dead.FirstDead.{first_dead_of}

module _ (net : List ℕ) where
  abbrev pub IsDeadAllows : Mode → Result Bool Refusal → Type 0
  IsDeadAllows t told = told ≡ deadness_of net t

  abbrev pub FirstDeadAllows : Result (Perhaps (Mode × Pair)) Refusal → Type 0
  FirstDeadAllows told = told ≡ first_dead_of net
