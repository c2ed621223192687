-- No mode before t is dead, and no arc of t before the i-th makes it so.
use Rattle.std.specs.Prelude.{None}
use Prim.Native.Nat.{◌+◌, ◌≤◌, ◌-◌}
use mathlib.Core.Path.{◌≡◌}
use Rattle.second_form.proofs.Dead.{Passed, Alive}
use Rattle.sheets.specs.Decoded.{net_of}
use Rattle.opened.proofs.dead.search.Given as goal

abbrev pub invariant-loop-i : goal.invariant-loop-i
invariant-loop-i l = (l.found ≡ None) × Passed (net_of l.net.sheet.now) l.arcs.start (l.arcs.start + l.i)

abbrev pub invariant-search : goal.invariant-search
invariant-search l = (l.found ≡ None) × Alive (net_of l.net.sheet.now) l.t
