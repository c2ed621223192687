-- No pair before p stops the step.
use Prim.Native.Nat.{◌≤◌, ◌-◌}
use mathlib.Core.Path.{◌≡◌}
use mathlib.Core.Option.{none}
use Rattle.model.specs.First.{first}
use Rattle.sheets.specs.Decoded.{net_of}
use Rattle.fire.specs.step.Sums.{sums_at, stop_at}
use Rattle.fire.proofs.step.pairs.find_stop.Given as goal

abbrev pub invariant-loop-p : goal.invariant-loop-p
invariant-loop-p l = (first l.p (stop_at l.why (net_of l.net.sheet.now) (sums_at l.sums) l.marking) ≡ none)
