-- The numbers of the arcs before the i-th.
use Prim.Native.Nat.{◌≤◌, ◌-◌}
use Rattle.sheets.specs.Decoded.{net_of}
use Rattle.numbers.proofs.ByNumbers.{NumbersWith}
use Rattle.numbers.proofs.write_mode.Given as goal

abbrev pub invariant-loop-i : goal.invariant-loop-i
invariant-loop-i l = NumbersWith (net_of l.net.sheet.now) l.numbers l.arcs l.i
