-- The span holds the first arc from t on, and narrows down to it.
use Prim.Native.Nat.{◌-◌}
use Rattle.sheets.specs.Decoded.{net_of}
use Rattle.opened.specs.Starts.{FirstBetween}
use Rattle.opened.proofs.starts.search_first.Given as goal

abbrev pub invariant-loop-span : goal.invariant-loop-span
invariant-loop-span l = FirstBetween (net_of l.net.sheet.now).arcs l.t l.span

abbrev pub decreases-loop-span : goal.decreases-loop-span
decreases-loop-span l = l.span.high - l.span.low
