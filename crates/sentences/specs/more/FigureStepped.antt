-- Steps (document 02, P1) and the figure: after an accepted step it is the figure before plus the weight change of each member, a repeat each time.
use Rattle.model.specs.declared.Refusal.{Refusal}
use Rattle.std.specs.Prelude.{ℕ, ◌≡◌, List, ℤ, ◌+ℤ◌, Result}
use Rattle.model.specs.Refusals.{Answer}
use Rattle.model.specs.Refusals.{number}
use Rattle.model.specs.Replies.{yields}
use Rattle.movement.specs.Figures.{changes}
use Rattle.sheets.specs.Decoded.{net_of, weights_of}
use Rattle.fire.specs.step.Calls.{step_modes}
use Rattle.fire.specs.step.Allowed.{FireStepAllows}
use Rattle.statement.specs.weigh.Calls as figuring
use Rattle.statement.specs.weigh.Allowed.{FigureAllows}

abbrev pub FigureStepped : Type 0
FigureStepped = (net weights m modes after : List ℕ) (told : Answer) → FireStepAllows net m modes (told, after) → number told ≡ 0
    → (before : Result ℤ Refusal) → FigureAllows net weights m before → (figure : ℤ) → figuring.told before ≡ yields figure
    → (o : Result ℤ Refusal) → FigureAllows net weights after o → figuring.told o ≡ yields (figure +ℤ changes (net_of net) (weights_of weights) (step_modes modes))
