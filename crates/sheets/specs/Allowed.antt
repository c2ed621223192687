-- The contracts of the public calls, which the source states by these names: what each allows of its answer, or of the part that it hands back.
use Rattle.std.specs.Prelude.{ℕ, ◌≡◌, List}
use Rattle.model.specs.Refusals.{Answer}
use Rattle.model.specs.Refusals.{answer}
use Rattle.sheets.specs.nets.Nets.{net_refusal}
use Rattle.sheets.specs.lists.Weights.{weights_refusal}
use Rattle.sheets.specs.lists.Movements.{movements_refusal}
use Rattle.sheets.specs.Whole.{whole_net, whole_weights, whole_movements, rest}

module _ (s : List ℕ) where
  -- "A sheet reader .. hands back the part of the caller's bytes after the sheet ..; on a refusal it hands back the whole run."
  abbrev pub AfterNetAllows : List ℕ → Type 0
  AfterNetAllows part = part ≡ rest (answer (net_refusal s)) s

  abbrev pub AfterMovementsAllows : List ℕ → Type 0
  AfterMovementsAllows part = part ≡ rest (answer (movements_refusal s)) s

  abbrev pub AfterWeightsAllows : ℕ → List ℕ → Type 0
  AfterWeightsAllows pairs part = part ≡ rest (answer (weights_refusal pairs s)) s

  -- "A call that takes one sheet as an argument refuses left-over bytes by 3."
  abbrev pub WholeNetAllows : Answer → Type 0
  WholeNetAllows told = told ≡ answer (whole_net s)

  abbrev pub WholeMovementsAllows : Answer → Type 0
  WholeMovementsAllows told = told ≡ answer (whole_movements s)

  abbrev pub WholeWeightsAllows : ℕ → Answer → Type 0
  WholeWeightsAllows pairs told = told ≡ answer (whole_weights pairs s)
