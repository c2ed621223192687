-- The answer of a call that opens a net first: the sheet's refusal, or that of what follows.
use Prim.Native.Nat.{ℕ}
use mathlib.Core.Path.{◌≡◌, refl, sym, ◌∙◌, ap}
use mathlib.Core.List.{List}
use mathlib.Core.Option.{Option, none, some}
use Rattle.std.specs.Prelude.{Err}
use Rattle.model.specs.declared.Refusal.{Refusal}
use Rattle.model.specs.First.{◌▸◌}
use Rattle.model.specs.Refusals.{Answer, answer}
use Rattle.model.proofs.First.{none_then, some_then}
use Rattle.sheets.specs.Whole.{whole_net}
use Rattle.leaving.specs.Leaving.{Leaves}
use Rattle.leaving.proofs.Leaving.{leaves-refused, leaves_after}

module _ (s : List ℕ) (rest : Option Refusal) where
  pub sheet-refused : {r : Refusal} → whole_net s ≡ some r → Err r ≡ answer (whole_net s ▸ rest)
  sheet-refused h = ap answer (sym (some_then rest h))

  pub sheet_open : {a : Answer} → whole_net s ≡ none → a ≡ answer rest → a ≡ answer (whole_net s ▸ rest)
  sheet_open h g = g ∙ ap answer (sym (none_then h refl))

  module _ {new found : List ℕ} where
    pub sheet-leaves : {r : Refusal} → whole_net s ≡ some r → Leaves (whole_net s ▸ rest) new found (Err r) found
    sheet-leaves h = leaves-refused _ (sheet-refused h) refl

    pub open_leaves : {a : Answer} {left : List ℕ} → whole_net s ≡ none → Leaves rest new found a left → Leaves (whole_net s ▸ rest) new found a left
    open_leaves h l = leaves_after _ _ h l
