-- No weight before p is refused.
use Prim.Native.Nat.{◌≤◌, ◌-◌}
use mathlib.Core.Path.{◌≡◌}
use mathlib.Core.Option.{none}
use Rattle.model.specs.First.{first}
use Rattle.heads.specs.Layout.{weight_at}
use Rattle.sheets.specs.lists.Weights.{weight_refusal}
use Rattle.sheets.proofs.lists.weights.each_weight.Given as goal

abbrev pub invariant-loop-p : goal.invariant-loop-p
invariant-loop-p l = (first l.p (λ q. weight_refusal l.sheet.bytes.now (weight_at q)) ≡ none)
