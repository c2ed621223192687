-- From line to line, until the closing or where none goes on.
use Prim.Native.Nat.{◌-◌}
use lib.ListN.{length}
use Rattle.import.proofs.scan.Onward.{Onward}
use Rattle.import.proofs.scan.lines.read_lines.Given as goal

abbrev pub invariant-loop-after : goal.invariant-loop-after
invariant-loop-after l = Onward l.s l.first l.q l.at

abbrev pub decreases-loop-after : goal.decreases-loop-after
decreases-loop-after l = length l.s - l.at
