-- Each arc before i is free.
use Prim.Native.Nat.{ℕ, ◌+◌, ◌≤◌, ◌<◌, ◌-◌}
use Rattle.sheets.specs.Decoded.{net_of}
use Rattle.fire.specs.firing.AtMode.{Free}
use Rattle.fire.proofs.firing.mode.arcs_free.Given as goal

abbrev pub invariant-loop-i : goal.invariant-loop-i
invariant-loop-i l = ((j : ℕ) → j < l.i → Free (net_of l.net.sheet.now) l.marking (l.arcs.start + j))
