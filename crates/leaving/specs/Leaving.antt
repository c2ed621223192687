-- What a call leaves in a marking that was lent to it.
use Rattle.std.specs.Prelude.{ℕ, ◌≡◌, Bool, true, ◌↔◌, List}
use Rattle.std.proofs.Math.Option.{Option, none, some}
use Rattle.model.specs.declared.Refusal.{Refusal}
use Rattle.model.specs.Refusals.{Answer}
use Rattle.model.specs.Refusals.{answer}

-- "Other refused calls write nothing."
abbrev pub written : Option Refusal → List ℕ → List ℕ → List ℕ
written none new found = new
written (some r) new found = found

-- a call that is refused by o, or by nothing: what it answers, and what it leaves in the marking that it found
pub record Leaves (o : Option Refusal) (new found : List ℕ) (a : Answer) (left : List ℕ) : Type 0 where
  pub answers : a ≡ answer o
  pub leaves : left ≡ written o new found

-- the same where it says only whether nothing refused it
pub record Makes (o : Option Refusal) (new found : List ℕ) (made : Bool) (left : List ℕ) : Type 0 where
  pub decides : (made ≡ true) ↔ (o ≡ none)
  pub leaves : left ≡ written o new found
