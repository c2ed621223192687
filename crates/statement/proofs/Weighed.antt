-- The figure of a marking along a list of movements: its size, and its next by a mode's weight change.
use Prim.Native.Nat.{ℕ, ◌≤◌}
use mathlib.Core.Path.{◌≡◌}
use mathlib.Core.List.{List}
use mathlib.Core.Option.{none}
use lib.IntN.{pos, nat_abs, ◌*ℤ◌}
use native.Mathlib.Omega.{arith}
use Rattle.model.specs.Nets.{count}
use Rattle.model.specs.Markings.{Marking}
use Rattle.movement.specs.Figures.{weight, figure}
use Rattle.movement.proofs.Figures.{size-sum}
use Rattle.opened.specs.declared.shape.NetShape.{NetShape}
use Rattle.sheets.specs.lists.Weights.{weights_refusal}
use Rattle.sheets.specs.Decoded.{net_of, weights_of}
use Rattle.opened.specs.Shape.{Open}
use Rattle.opened.proofs.Shapes.{sizes}
use Rattle.statement.proofs.weigh.Terms.{figure_terms}

module _ {s : List ℕ} {net : NetShape} (o : Open s net) (w : List ℕ) (accepted : weights_refusal net.pairs w ≡ none) where
  -- at most 256 pairs of a weight and a count, each within 1,000,000
  pub figure-size : {m : List ℕ} → Marking (net_of s) m → nat_abs (figure (net_of s) (weights_of w) m) ≤ 256000000000000
  unfolding figure
  figure-size {m} marking =
      let terms = figure_terms o w accepted marking in
      rw (← (sizes o).pairs) (omega (arith, (sizes o).pairs_within, size-sum net.pairs (λ p. weight (weights_of w) p *ℤ pos (count m p)) 1000000000000 terms.small))
