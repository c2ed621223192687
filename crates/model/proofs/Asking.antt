-- What a `?` makes of an answer: the first part of a chain is refused, or it is accepted and what follows decides.
use mathlib.Core.Path.{◌≡◌, refl, sym, ◌∙◌, ap}
use mathlib.Core.Option.{Option, none, some}
use Prim.Native.Nat.{ℕ, ◌+◌, ◌≤◌, ◌<◌}
use Rattle.std.specs.Prelude.{Result, Ok, Err, IsErr, IsErrAnd}
use Rattle.std.proofs.lemmas.Result.{err_from_is_err_and}
use Rattle.model.specs.declared.Refusal.{Refusal}
use Rattle.model.specs.First.{◌▸◌, first}
use Rattle.model.specs.Refusals.{Answer, answer}
use Rattle.model.proofs.First.{none_then, some_then, first-at, first-end, first_more}
use Rattle.model.proofs.Refusals.{answer-accepted, answer-refused}

-- what the exit of a `?` hands on is the refusal that was met
pub handed_on : {A : Type 0} {b : Result A Refusal} {r : Refusal} → IsErr b × IsErrAnd b (λ y. y ≡ r) → b ≡ Err r
handed_on {b = b} e = let p = err_from_is_err_and b e.1 in p.1 ∙ ap Err p.2

pub no_refusal : (o : Option Refusal) → Ok tt ≡ answer o → o ≡ none
no_refusal o e = answer-accepted o (sym e)

pub stops : {b : Answer} {r : Refusal} (o p : Option Refusal) → Err r ≡ answer o → IsErr b × IsErrAnd b (λ y. y ≡ r) → b ≡ answer (o ▸ p)
stops o p e h = handed_on h ∙ ap answer (sym (some_then p (answer-refused o (sym e))))

pub goes_on : {b : Answer} (o p : Option Refusal) → Ok tt ≡ answer o → b ≡ answer p → b ≡ answer (o ▸ p)
goes_on o p e g = g ∙ ap answer (sym (none_then (answer-accepted o (sym e)) refl))

pub first_stops : {b : Answer} {r : Refusal} (n i : ℕ) (f : ℕ → Option Refusal) → i < n → first i f ≡ none → Err r ≡ answer (f i) → IsErr b × IsErrAnd b (λ y. y ≡ r) → b ≡ answer (first n f)
first_stops {r = r} n i f h e g q = handed_on q ∙ ap answer (sym (first-at n i f r h e (answer-refused (f i) (sym g))))

pub first_goes_on : (i : ℕ) (f : ℕ → Option Refusal) → first i f ≡ none → Ok tt ≡ answer (f i) → first (i + 1) f ≡ none
first_goes_on i f e g = first_more i f e (answer-accepted (f i) (sym g))
