-- What a call leaves, test by test: "Other refused calls write nothing."
use Prim.Native.Nat.{ℕ}
use mathlib.Core.Path.{◌≡◌, refl, sym, ◌∙◌, ap, subst}
use mathlib.Core.Bool.{Bool, true, false, false≢true}
use mathlib.Core.List.{List}
use mathlib.Core.Option.{Option, none, some}
use Rattle.model.specs.declared.Refusal.{Refusal}
use Rattle.model.specs.Refusals.{Answer}
use Rattle.std.specs.Prelude.{Ok, Err, IsErr, IsErrAnd}
use Rattle.model.specs.First.{◌▸◌}
use Rattle.model.specs.Refusals.{answer}
use Rattle.model.proofs.First.{none_then}
use Rattle.model.proofs.Refusals.{answer-refused, answer-none}
use Rattle.model.proofs.Asking.{handed_on, no_refusal, stops}
use Rattle.leaving.specs.Leaving.{written, Leaves, Makes}

module _ {new found : List ℕ} where
  pub leaves-refused : {a : Answer} {r : Refusal} (o : Option Refusal) → a ≡ answer o → a ≡ Err r → Leaves o new found a found
  leaves-refused {a} {r} o e h = record { answers = e; leaves = sym (ap (λ o. written o new found) (answer-refused o (sym e ∙ h))) }

  pub leaves-written : {a : Answer} {left : List ℕ} (o : Option Refusal) → a ≡ answer o → a ≡ Ok tt → left ≡ new → Leaves o new found a left
  leaves-written o e h q = record { answers = e; leaves = q ∙ sym (ap (λ o. written o new found) (answer-none o e h)) }

  -- refused, whatever by
  pub leaves-some : {a : Answer} (o : Option Refusal) → a ≡ answer o → ¬ (o ≡ none) → Leaves o new found a found
  leaves-some none e h = absurd (h refl)
  leaves-some (some r) e h = record { answers = e; leaves = refl }

  -- the first part has passed
  pub leaves_after : {a : Answer} {left : List ℕ} (o p : Option Refusal) → o ≡ none → Leaves p new found a left → Leaves (o ▸ p) new found a left
  leaves_after {a} {left} o p e l = subst (λ (q : Option Refusal). Leaves q new found a left) (sym (none_then e refl)) l

  -- the same where the code asks with a `?`: what its exit hands on, and what follows it
  pub leaves-stops : {b : Answer} {r : Refusal} (o p : Option Refusal) → Err r ≡ answer o → IsErr b × IsErrAnd b (λ y. y ≡ r) → Leaves (o ▸ p) new found b found
  leaves-stops o p e h = leaves-refused (o ▸ p) (stops o p e h) (handed_on h)

  pub leaves-goes-on : {b : Answer} {left : List ℕ} (o p : Option Refusal) → Ok tt ≡ answer o → Leaves p new found b left → Leaves (o ▸ p) new found b left
  leaves-goes-on o p e l = leaves_after o p (no_refusal o e) l

  -- not made, or made
  pub makes_not : (o : Option Refusal) → ¬ (o ≡ none) → Makes o new found false found
  makes_not none h = absurd (h refl)
  makes_not (some r) h = record { decides = (λ z. absurd (false≢true z), λ e. absurd (h e)); leaves = refl }

  pub makes_so : {left : List ℕ} (o : Option Refusal) → o ≡ none → left ≡ new → Makes o new found true left
  makes_so o e q = record { decides = (λ _. e, λ _. refl); leaves = q ∙ sym (ap (λ o. written o new found) e) }

  -- the first part has passed
  pub makes-after : {made : Bool} {left : List ℕ} (o p : Option Refusal) → o ≡ none → Makes p new found made left → Makes (o ▸ p) new found made left
  makes-after {made} {left} o p e l = subst (λ (q : Option Refusal). Makes q new found made left) (sym (none_then e refl)) l
