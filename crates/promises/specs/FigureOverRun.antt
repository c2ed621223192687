-- The figure over a run: "The figure after a list is the starting figure plus the weight change of each accepted movement."
use Rattle.std.specs.Prelude.{ℕ, ◌<◌, ◌≡◌, List, ℤ, ◌+ℤ◌, get_or}
use Rattle.std.proofs.Math.Option.{none}
use Rattle.model.specs.declared.Mode.{Mode}
use Rattle.model.specs.Nets.{mode_no}
use Rattle.movement.specs.Runs.{Outcome}
use Rattle.movement.specs.Figures.{sum}
use Rattle.model.specs.Replies.{yields}
use Rattle.sheets.specs.Decoded.{movements_of}
use Rattle.run.specs.Calls.{run_of}
use Rattle.statement.specs.weigh.Calls.{told, figure_refusal, figure_of, change_of}

module _ (net weights movements marking : List ℕ) where
  abbrev ran : Outcome
  ran = run_of net movements marking

  abbrev movement : ℕ → Mode
  movement k = get_or (movements_of movements) k (mode_no 0)

  pub record FigureAfterRun : Type 0 where
    pub start : ℤ
    pub change : ℕ → ℤ
    -- the figure call answers the starting figure, and the change call the change of each accepted movement
    pub starts : told (figure_of net weights marking) ≡ yields start
    pub moves : (k : ℕ) → k < ran.accepted → told (change_of net weights (movement k)) ≡ yields (change k)
    -- what the figure call answers of the marking that the run call leaves
    pub ends : told (figure_of net weights ran.marking) ≡ yields (start +ℤ sum ran.accepted change)

-- A run that is refused before its first movement has accepted none, and the figure stays.
abbrev pub FigureOverRun : Type 0
FigureOverRun = (net weights movements marking : List ℕ) → figure_refusal net weights marking ≡ none → FigureAfterRun net weights movements marking
