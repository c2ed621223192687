-- The entries before t are right, k is the one for t, and the entries from t on say that no arc is left.
use Prim.Native.Nat.{ℕ, ◌≤◌, ◌<◌, ◌-◌}
use mathlib.Core.Path.{◌≡◌}
use lib.ListN.{length, get_or}
use Rattle.model.proofs.Tables.{Filled}
use Rattle.sheets.specs.Decoded.{net_of}
use Rattle.opened.specs.Starts.{FirstFrom}
use Rattle.opened.proofs.starts.starts.Given as goal

abbrev pub invariant-loop-t : goal.invariant-loop-t
invariant-loop-t l =
    (length l.table ≡ 257) × FirstFrom (net_of l.net.sheet.now).arcs l.t l.k × Filled (FirstFrom (net_of l.net.sheet.now).arcs) 0 l.table l.t × ((u : ℕ) → l.t ≤ u → u < 257 → get_or l.table u 0 ≡ l.net.shape.arcs)
