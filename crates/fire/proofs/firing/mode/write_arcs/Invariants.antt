-- The arcs before i have been written.
use Prim.Native.Nat.{◌+◌, ◌≤◌, ◌-◌}
use mathlib.Core.Path.{◌≡◌}
use Rattle.model.specs.Nets.{arc_no}
use Rattle.movement.proofs.ByArcs.{write_arcs}
use Rattle.sheets.specs.Decoded.{net_of}
use Rattle.fire.proofs.firing.mode.write_arcs.Given as goal

abbrev pub invariant-loop-i : goal.invariant-loop-i
invariant-loop-i l = (l.marking ≡ write_arcs (λ k. arc_no (net_of l.net.sheet.now).arcs (l.arcs.start + k)) l.i l.initial.marking)
