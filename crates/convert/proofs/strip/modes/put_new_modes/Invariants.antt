-- The arcs of the modes passed are put.
use Prim.Native.Nat.{◌≤◌, ◌-◌}
use Rattle.model.specs.Lists.{joined}
use Rattle.sheets.specs.written.Puts.{Puts}
use Rattle.convert.specs.strip.Parts.{new_group}
use Rattle.convert.proofs.strip.modes.put_new_modes.Given as goal

abbrev pub invariant-loop-n : goal.invariant-loop-n
invariant-loop-n l = Puts l.initial.out l.at (joined l.n (new_group l.version l.before l.pair)) l.out l.next
