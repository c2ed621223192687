-- An answer by the first refusal, and by what is found where there is none.
use Rattle.std.specs.Prelude.{ℤ, Option as Perhaps, Result, Ok, Err}
use mathlib.Core.Path.{◌≡◌, sym, ◌∙◌, ap}
use mathlib.Core.Option.{Option, none, some}
use Rattle.model.specs.declared.Pair.{Pair}
use Rattle.model.specs.declared.Refusal.{Refusal}
use Rattle.model.specs.Replies.{yields}
use Rattle.both_forms.specs.Audit.{Finding}
use Rattle.complement.specs.audit.Audits.{found, finds, told}

module _ {o : Option Refusal} (f : Option Finding) where
  pub finds-refused : {r : Refusal} → o ≡ some r → Err r ≡ finds o f
  unfolding finds
  finds-refused e = rw e

  pub finds-same : {p : Option Refusal} {x : Result (Perhaps (Pair × ℤ)) Refusal} → o ≡ p → x ≡ finds p f → x ≡ finds o f
  finds-same e g = g ∙ ap (λ o. finds o f) (sym e)

  -- none is refused
  pub finds-all : {x : Perhaps (Pair × ℤ)} → o ≡ none → x ≡ found f → Ok x ≡ finds o f
  unfolding finds
  finds-all e g = rw (e, g)

-- an accepted call tells what was found
pub told-found : {o : Option Refusal} (f : Option Finding) → o ≡ none → told (finds o f) ≡ yields f
unfolding finds
told-found none e = rw e
told-found (some f) e = rw e
