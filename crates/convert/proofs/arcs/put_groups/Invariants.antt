-- The arcs of the modes passed are put.
use Prim.Native.Nat.{◌≤◌, ◌-◌}
use Rattle.model.specs.Lists.{joined}
use Rattle.sheets.specs.Decoded.{net_of}
use Rattle.sheets.specs.written.Puts.{Puts}
use Rattle.convert.specs.Parts.{mode_group}
use Rattle.convert.proofs.arcs.put_groups.Given as goal

abbrev pub invariant-loop-t : goal.invariant-loop-t
invariant-loop-t l = Puts l.initial.out l.at (joined l.t (mode_group l.version (net_of l.net.sheet.now))) l.out l.next
