-- A movement that is accepted by the weak capacity rule (document 02, P10).
use Prim.Native.Nat.{ℕ}
use mathlib.Core.Path.{◌≡◌, subst}
use mathlib.Core.List.{List}
use Rattle.model.specs.declared.Mode.{Mode}
use Rattle.model.specs.Refusals.{Answer}
use Rattle.model.specs.declared.CapacityRule.TheVariants.{Weak}
use Rattle.model.specs.Refusals.{number}
use Rattle.model.specs.Nets.{pairs, K, count, row}
use Rattle.model.specs.Allows.{Allows, EnablesWeakly}
use Rattle.sheets.specs.Decoded.{net_of}
use Rattle.fire.specs.Allowed.{TestAllows}
use Rattle.sentences.proofs.Demand2.{firing}

pub weakly : (net marking : List ℕ) (t : Mode) (a : Answer) → TestAllows net marking t a → number a ≡ 0 → (net_of net).rule ≡ Weak
    → EnablesWeakly (pairs (net_of net)) (K (net_of net)) (row (net_of net) t) (count marking)
weakly net marking t a h z e =
    subst (λ r. Allows r (pairs (net_of net)) (K (net_of net)) (row (net_of net) t) (count marking)) e ((firing.test net marking t a h).0 z).enabled
