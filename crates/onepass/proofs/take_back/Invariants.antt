-- Only the first i arcs have written what was found.
use Prim.Native.Nat.{ℕ}
use mathlib.Core.Path.{◌≡◌}
use mathlib.Core.List.{List}
use Rattle.sheets.specs.Decoded.{net_of}
use Rattle.onepass.specs.OnePass.{written_to, PassedAndWritten}
use Rattle.onepass.proofs.take_back.Given as goal

abbrev pub invariant-loop-i : goal.invariant-loop-i
invariant-loop-i l = (m : List ℕ) → PassedAndWritten (net_of l.net.sheet.now) l.arcs l.written m l.initial.marking → l.marking ≡ written_to (net_of l.net.sheet.now) l.arcs l.i m
