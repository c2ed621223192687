-- The entries below t are right.
use Prim.Native.Nat.{ℕ}
use lib.IntN.{ℤ}
use mathlib.Core.List.{List}
use Rattle.model.specs.Nets.{mode_no}
use Rattle.movement.specs.Figures.{change}
use Rattle.sheets.specs.Decoded.{net_of, weights_of}
use mathlib.Core.Path.{◌≡◌}
use lib.IntN.{pos}
use lib.ListN.{length}
use Rattle.model.proofs.Tables.{Filled}
use Rattle.statement.proofs.weigh.changes.write_changes.Given as goal

-- what entry t of the table says
abbrev pub Is : List ℕ → List ℕ → ℕ → ℤ → Type 0
Is s weights t z = z ≡ change (net_of s) (weights_of weights) (mode_no t)

abbrev pub invariant-loop-t : goal.invariant-loop-t
invariant-loop-t l = (length l.changes ≡ 256) × Filled (Is l.net.sheet.now l.weights) (pos 0) l.changes l.t
