-- 6: whether a mode is there in an open net.
use Prim.Native.Nat.{ℕ, ◌≤◌, ◌<◌}
use mathlib.Core.Path.{◌≡◌}
use mathlib.Core.List.{List}
use mathlib.Core.Option.{none, some}
use Rattle.model.specs.declared.Mode.{Mode}
use Rattle.model.specs.declared.Thing.{Thing}
use Rattle.model.specs.declared.Fault.TheVariants.{NotThere}
use Rattle.model.specs.Nets.{modes}
use Rattle.model.specs.Firing.{absent}
use Rattle.model.proofs.Firing.{mode-there, mode-missing}
use Rattle.opened.specs.declared.shape.NetShape.{NetShape}
use Rattle.model.specs.Refusals.{wrong}
use Rattle.sheets.specs.Decoded.{net_of}
use Rattle.opened.specs.Shape.{Open}
use Rattle.opened.proofs.Shapes.{sizes}

module _ {s : List ℕ} {net : NetShape} (o : Open s net) (about : Thing) (t : Mode) where
  pub open_there : t.0 < net.modes → absent about (modes (net_of s)) t ≡ none
  open_there h = mode-there about (modes (net_of s)) t (rw (← (sizes o).modes) h)

  pub open_missing : net.modes ≤ t.0 → absent about (modes (net_of s)) t ≡ some (wrong about NotThere)
  open_missing h = mode-missing about (modes (net_of s)) t (rw (← (sizes o).modes) h)
