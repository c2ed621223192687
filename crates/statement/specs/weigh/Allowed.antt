-- The contracts of the public calls, which the source states by these names.
use Rattle.model.specs.declared.Refusal.{Refusal}
use Rattle.std.specs.Prelude.{ℕ, ◌≡◌, List, ℤ, Result}
use Rattle.model.specs.declared.Mode.{Mode}
use Rattle.statement.specs.weigh.Calls.{figure_of, change_of}

module _ (net weights : List ℕ) where
  abbrev pub FigureAllows : List ℕ → Result ℤ Refusal → Type 0
  FigureAllows marking told = told ≡ figure_of net weights marking

  abbrev pub ChangeAllows : Mode → Result ℤ Refusal → Type 0
  ChangeAllows t told = told ≡ change_of net weights t
