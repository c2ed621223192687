-- How far a list of movements comes: what the functions of this crate speak of.
-- A reader of the promises may skip this file.
use Rattle.std.specs.Prelude.{ℕ, ◌≡◌, List}
use Rattle.model.specs.declared.Mode.{Mode}
use Rattle.model.specs.Nets.{PNet}
use Rattle.movement.specs.Runs.{run}
use Rattle.both_forms.specs.Visits.{visited}
use Rattle.opened.specs.declared.shape.NetShape.{NetShape}
use Rattle.sheets.specs.Decoded.{net_of}
use Rattle.opened.specs.Starts.{StartsAre}
use Rattle.numbers.specs.Numbers.{Numbered}
use Rattle.progress.specs.declared.Progress.{Progress}

-- an open net with both tables of a run
pub record Tables (s : List ℕ) (net : NetShape) (starts numbers : List ℕ) : Type 0 where
  pub numbered : Numbered s net numbers
  pub starts_hold : StartsAre (net_of s).arcs starts

-- a run of the movements ts from m: how many it accepts, how many arcs it visits, and what it leaves in the marking
pub record Accepts (net : PNet) (ts : List Mode) (m : List ℕ) (done : Progress) (left : List ℕ) : Type 0 where
  pub accepted : done.accepted ≡ (run net ts m).accepted
  pub visits : done.visited ≡ visited net ts m
  pub leaves : left ≡ (run net ts m).marking
