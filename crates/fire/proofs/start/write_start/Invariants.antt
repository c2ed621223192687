-- The counts before p are those of the first marking.
use Prim.Native.Nat.{◌≤◌, ◌-◌}
use mathlib.Core.Path.{◌≡◌}
use lib.ListN.{length}
use Rattle.model.specs.Nets.{count}
use Rattle.sheets.specs.Decoded.{net_of}
use Rattle.fire.proofs.Filling.{Filled}
use Rattle.fire.proofs.start.write_start.Given as goal

abbrev pub invariant-loop-p : goal.invariant-loop-p
invariant-loop-p l = Filled (λ q x. x ≡ count (net_of l.net.sheet.now).start q) l.marking l.p
