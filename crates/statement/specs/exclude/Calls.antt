-- exclude over a net sheet, a weight sheet and a claimed marking: what it answers.
-- "Refusals: net, weights, marking, then 21 with the first unbalanced mode, then 22 when the figures are equal."
use Rattle.std.specs.Prelude.{ℕ, List}
use Rattle.std.proofs.Math.Option.{Option}
use Rattle.model.specs.declared.Refusal.{Refusal}
use Rattle.model.specs.First.{◌▸◌}
use Rattle.model.specs.Nets.{pairs}
use Rattle.model.specs.Markings.{marking_refusal}
use Rattle.movement.specs.Exclusion.{claim_refusal}
use Rattle.sheets.specs.Whole.{whole_net, whole_weights}
use Rattle.sheets.specs.Decoded.{net_of, weights_of}

-- "Claims above capacity are refused by 9": the claim is tested as any marking is
unfoldable pub exclude_refusal : List ℕ → List ℕ → List ℕ → Option Refusal
exclude_refusal net weights claim =
    whole_net net
    ▸ whole_weights (pairs (net_of net)) weights
    ▸ marking_refusal (net_of net) claim
    ▸ claim_refusal (net_of net) (weights_of weights) claim
