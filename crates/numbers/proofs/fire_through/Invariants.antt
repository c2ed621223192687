-- The arcs before i let the mode pass, and have written.
use Prim.Native.Nat.{◌≤◌, ◌-◌}
use Rattle.sheets.specs.Decoded.{net_of}
use Rattle.onepass.specs.OnePass.{PassedAndWritten}
use Rattle.numbers.proofs.fire_through.Given as goal

abbrev pub invariant-loop-i : goal.invariant-loop-i
invariant-loop-i l = PassedAndWritten (net_of l.net.sheet.now) l.arcs l.i l.initial.marking l.marking
