-- The bytes of the arcs passed are put.
use Prim.Native.Nat.{◌≤◌, ◌-◌, ◌+◌}
use Rattle.model.specs.Lists.{joined}
use Rattle.sheets.specs.Decoded.{net_of}
use Rattle.sheets.specs.written.Puts.{Puts}
use Rattle.convert.specs.Parts.{arc_no_bytes}
use Rattle.convert.proofs.arcs.put_mode_arcs.Given as goal

abbrev pub invariant-loop-i : goal.invariant-loop-i
invariant-loop-i l = Puts l.initial.out l.at (joined l.i (λ k. arc_no_bytes l.version (net_of l.net.sheet.now) (l.arcs.start + k))) l.out l.next
