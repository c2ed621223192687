-- No pair before p is refused.
use Prim.Native.Nat.{◌≤◌, ◌-◌}
use mathlib.Core.Path.{◌≡◌}
use mathlib.Core.Option.{none}
use Rattle.model.specs.First.{first}
use Rattle.sheets.specs.Decoded.{net_of}
use Rattle.model.specs.Markings.{count_at_refusal}
use Rattle.fire.proofs.marking.each_count.Given as goal

abbrev pub invariant-loop-p : goal.invariant-loop-p
invariant-loop-p l = (first l.p (count_at_refusal (net_of l.net.sheet.now) l.marking) ≡ none)
