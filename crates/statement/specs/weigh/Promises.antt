-- What is promised of the figure and of a mode's weight change, over the bytes of the sheets.
use Rattle.std.specs.Prelude.{ℕ, ◌≡◌, List, ℤ, pos, ◌+ℤ◌, ◌-ℤ◌, ◌*ℤ◌}
use Rattle.std.proofs.Math.Option.{none, some}
use Rattle.model.specs.declared.Mode.{Mode}
use Rattle.model.specs.Nets.{pairs, count, row}
use Rattle.movement.specs.Figures.{sum, weight}
use Rattle.sheets.specs.Decoded.{net_of, weights_of}
use Rattle.fire.specs.Calls.{test_refusal, fired_by}
use Rattle.statement.specs.weigh.Calls.{told, figure_refusal, change_refusal, figure_of, change_of}

-- 1. "The figure is the sum over all pairs of weight times count."
abbrev pub FigureIsSum : Type 0
FigureIsSum = (net weights marking : List ℕ) → figure_refusal net weights marking ≡ none
    → (told (figure_of net weights marking)).value ≡ some (sum (pairs (net_of net)) (λ p. weight (weights_of weights) p *ℤ pos (count marking p)))

-- "A mode's weight change is the sum of weight times (Post less Pre)."
abbrev pub ChangeIsSum : Type 0
ChangeIsSum = (net weights : List ℕ) (t : Mode) → change_refusal net weights t ≡ none
    → (told (change_of net weights t)).value
    ≡ some (sum (pairs (net_of net)) (λ p. weight (weights_of weights) p *ℤ (pos (row (net_of net) t p).post -ℤ pos (row (net_of net) t p).pre)))

-- 2. The figure after fire is the figure before plus the mode's weight change.
pub record Moves (net weights marking : List ℕ) (t : Mode) : Type 0 where
  pub figure : ℤ
  pub change : ℤ
  pub before : (told (figure_of net weights marking)).value ≡ some figure
  pub moved : (told (change_of net weights t)).value ≡ some change
  pub after : (told (figure_of net weights (fired_by net marking t))).value ≡ some (figure +ℤ change)

abbrev pub FigureFired : Type 0
FigureFired = (net weights marking : List ℕ) (t : Mode) → figure_refusal net weights marking ≡ none → test_refusal net marking t ≡ none
    → Moves net weights marking t
