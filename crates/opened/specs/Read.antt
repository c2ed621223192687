-- Three sheets that have been accepted: a net, weights for its pairs, and movements. A reader of the promises may skip this file.
use Rattle.std.specs.Prelude.{ℕ, ◌≡◌, List}
use Rattle.std.proofs.Math.Option.{none}
use Rattle.sheets.specs.lists.Movements.{movements_refusal}
use Rattle.sheets.specs.lists.Weights.{weights_refusal}
use Rattle.opened.specs.declared.shape.NetShape.{NetShape}
use Rattle.opened.specs.Shape.{Open}

pub record Read (s : List ℕ) (net : NetShape) (weights movements : List ℕ) : Type 0 where
  pub opened : Open s net
  pub weighed : weights_refusal net.pairs weights ≡ none
  pub listed : movements_refusal movements ≡ none
