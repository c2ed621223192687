-- What is promised of an exclusion, over the bytes of its sheets. That no list leads to the claim stands in the crate promises.
use Rattle.std.specs.Prelude.{ℕ, ◌≡◌, List, ◌↔◌, ◌≢◌}
use Rattle.std.proofs.Math.Option.{none}
use Rattle.model.specs.Nets.{pairs}
use Rattle.model.specs.Markings.{Marking}
use Rattle.movement.specs.Figures.{figure}
use Rattle.movement.specs.Exclusion.{Balanced}
use Rattle.sheets.specs.Whole.{whole_net, whole_weights}
use Rattle.sheets.specs.Decoded.{net_of, weights_of}
use Rattle.statement.specs.exclude.Calls.{exclude_refusal}

-- "Accept it exactly when the weight change of every mode is 0 and the figure of the claimed marking differs from that of the first marking.": of sheets that are
-- accepted and a claim that is a marking of the net
pub record Excluded (net weights claim : List ℕ) : Type 0 where
  pub net_accepted : whole_net net ≡ none
  pub weights_accepted : whole_weights (pairs (net_of net)) weights ≡ none
  pub marking : Marking (net_of net) claim
  pub balanced : Balanced (net_of net) (weights_of weights)
  pub differs : figure (net_of net) (weights_of weights) claim ≢ figure (net_of net) (weights_of weights) (net_of net).start

abbrev pub ExcludedExactly : Type 0
ExcludedExactly = (net weights claim : List ℕ) → (exclude_refusal net weights claim ≡ none) ↔ Excluded net weights claim
