-- No pair before p is refused.
use Prim.Native.Nat.{◌≤◌, ◌-◌}
use mathlib.Core.Path.{◌≡◌}
use mathlib.Core.Option.{none}
use Rattle.model.specs.First.{first}
use Rattle.heads.specs.Layout.{pair_at}
use Rattle.fields.specs.Fields.{pair_refusal}
use Rattle.fields.proofs.pairs.read_pairs.Given as goal

abbrev pub invariant-loop-p : goal.invariant-loop-p
invariant-loop-p l = (first l.p (λ q. pair_refusal l.sheet.bytes.now (pair_at l.start q)) ≡ none)
