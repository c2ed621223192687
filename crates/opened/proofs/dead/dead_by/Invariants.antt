-- No arc of the mode before the i-th makes it dead.
use Prim.Native.Nat.{◌+◌, ◌≤◌, ◌-◌}
use Rattle.second_form.proofs.Dead.{Passed}
use Rattle.sheets.specs.Decoded.{net_of}
use Rattle.opened.proofs.dead.dead_by.Given as goal

abbrev pub invariant-loop-i : goal.invariant-loop-i
invariant-loop-i l = Passed (net_of l.net.sheet.now) l.arcs.start (l.arcs.start + l.i)
