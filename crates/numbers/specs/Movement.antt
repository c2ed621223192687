-- One movement of a list.
-- A reader of the promises may skip this file.
use Rattle.std.specs.Prelude.{◌≤◌, ◌<◌, ◌≡◌}
use Rattle.model.specs.declared.Mode.{Mode}
use Rattle.model.specs.Nets.{PNet, modes}
use Rattle.both_forms.specs.Visits.{arcs_of_mode}
use Rattle.opened.specs.declared.starts.Segment.{Segment}
use Rattle.opened.specs.Starts.{ModeArcs}

-- what a movement of mode t visits: as many arcs as the mode counts, and where it is there they are the mode's
pub record Tries (net : PNet) (t : Mode) (arcs : Segment) : Type 0 where
  pub mode : arcs.mode ≡ t
  pub visits : arcs.count ≡ arcs_of_mode net t
  pub few : arcs.count ≤ 2048
  pub segment : t.0 < modes net → ModeArcs net.arcs t arcs.start arcs.count
