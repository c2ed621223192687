-- The contracts of the readers of weight sheets and movement sheets, which the source states by these names.
use Rattle.std.specs.Prelude.{ℕ, ◌≡◌, List}
use Rattle.model.specs.Refusals.{Answer}
use Rattle.model.specs.Refusals.{answer}
use Rattle.sheets.specs.lists.Weights.{weights_refusal}
use Rattle.sheets.specs.lists.Movements.{movements_refusal}

module _ (s : List ℕ) where
  abbrev pub ReadMovementsAllows : Answer → Type 0
  ReadMovementsAllows told = told ≡ answer (movements_refusal s)

  abbrev pub ReadWeightsAllows : ℕ → Answer → Type 0
  ReadWeightsAllows pairs told = told ≡ answer (weights_refusal pairs s)
