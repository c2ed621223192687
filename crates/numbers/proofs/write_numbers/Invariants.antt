-- The numbers of the modes below t.
use Prim.Native.Nat.{◌≤◌, ◌-◌}
use Rattle.sheets.specs.Decoded.{net_of}
use Rattle.numbers.specs.Numbers.{NumbersBelow}
use Rattle.numbers.proofs.write_numbers.Given as goal

abbrev pub invariant-loop-t : goal.invariant-loop-t
invariant-loop-t l = NumbersBelow (net_of l.net.sheet.now) l.numbers l.t
