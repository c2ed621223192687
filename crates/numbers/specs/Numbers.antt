-- A table of one number for each arc of a net, by which a run tests.
-- A reader of the promises may skip this file.
use Rattle.std.specs.Prelude.{ℕ, ◌≤◌, ◌<◌, ◌≡◌, List, length, get_or}
use Rattle.model.specs.Nets.{PNet, arc_no}
use Rattle.model.specs.Firing.{room_at}
use Rattle.model.specs.PassBelow.{pass_below}
use Rattle.opened.specs.declared.shape.NetShape.{NetShape}
use Rattle.sheets.specs.Decoded.{net_of}
use Rattle.opened.specs.Shape.{Open}

-- the number of the k-th arc of a net, below which its counts pass; a table of 2048 with those of the arcs whose mode is below t, and one with all
unfoldable pub number_of : PNet → ℕ → ℕ
number_of net k = let a = arc_no net.arcs k in pass_below a.entry (room_at net a)

pub record NumbersBelow (net : PNet) (numbers : List ℕ) (t : ℕ) : Type 0 where
  pub long : length numbers ≡ 2048
  pub each : (k : ℕ) → k < length net.arcs → (arc_no net.arcs k).mode.0 < t → get_or numbers k 0 ≡ number_of net k

pub record NumbersAre (net : PNet) (numbers : List ℕ) : Type 0 where
  pub long : length net.arcs ≤ length numbers
  pub each : (k : ℕ) → k < length net.arcs → get_or numbers k 0 ≡ number_of net k

-- an open net with the table of numbers, empty where there is none
pub record Numbered (s : List ℕ) (net : NetShape) (numbers : List ℕ) : Type 0 where
  pub opened : Open s net
  pub numbers_are : 0 < length numbers → NumbersAre (net_of s) numbers
