-- No arc before i stops the mode.
use Prim.Native.Nat.{◌+◌, ◌≤◌, ◌-◌}
use mathlib.Core.Path.{◌≡◌}
use mathlib.Core.Option.{none}
use Rattle.model.specs.First.{first}
use Rattle.sheets.specs.Decoded.{net_of}
use Rattle.fire.specs.firing.AtMode.{stop_at}
use Rattle.fire.proofs.firing.mode.find_stop.Given as goal

abbrev pub invariant-loop-i : goal.invariant-loop-i
invariant-loop-i l = (first l.i (λ k. stop_at l.thing l.why (net_of l.net.sheet.now) l.marking (l.arcs.start + k)) ≡ none)
