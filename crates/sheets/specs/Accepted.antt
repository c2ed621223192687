-- What is promised of an accepted sheet.
use Rattle.std.specs.Prelude.{ℕ, ◌≤◌, ◌<◌, ◌≡◌, List, nat_abs, length}
use Rattle.std.proofs.Math.Option.{none}
use Rattle.model.specs.Numbers.{limit}
use Rattle.movement.specs.Figures.{weight}
use Rattle.model.specs.WellFormed.{WellFormed}
use Rattle.sheets.specs.lists.Movements.{most_movements, movements_refusal}
use Rattle.sheets.specs.lists.Weights.{weights_refusal}
use Rattle.sheets.specs.nets.Nets.{net_refusal}
use Rattle.sheets.specs.Decoded.{net_of, movements_of, weights_of}

-- the net that a net sheet means keeps document 01's limits, its arcs rise, none is blank, and its first marking is within K
abbrev pub AcceptedNet : Type 0
AcceptedNet = (s : List ℕ) → net_refusal s ≡ none → WellFormed (net_of s)

-- a movement sheet lists at most 8,192 modes
abbrev pub AcceptedMovements : Type 0
AcceptedMovements = (s : List ℕ) → movements_refusal s ≡ none → length (movements_of s) ≤ most_movements

-- a weight sheet lists one weight for each pair, from -1,000,000 to 1,000,000
abbrev pub AcceptedWeights : Type 0
AcceptedWeights = (pairs : ℕ) (s : List ℕ) → weights_refusal pairs s ≡ none
    → (length (weights_of s) ≡ pairs) × ((p : ℕ) → p < pairs → nat_abs (weight (weights_of s) p) ≤ limit)
