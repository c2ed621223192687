-- Markings that calls leave, one after another: what one call left is lent to the next. A call may be refused, and leaves what its contract then says.
use Rattle.std.specs.Prelude.{ℕ, ◌≡◌, List}
use Rattle.std.proofs.Math.Option.{none}
use Rattle.model.specs.declared.Mode.{Mode}
use Rattle.model.specs.Refusals.{Answer}
use Rattle.model.specs.Refusals.{number}
use Rattle.model.specs.Markings.{marking_refusal}
use Rattle.second_form.specs.Complement.{Corresponds}
use Rattle.sheets.specs.Decoded.{net_of}
use Rattle.fire.specs.Allowed.{BeginAllows, FireAllows}
use Rattle.run.specs.declared.Ran.{Ran}
use Rattle.run.specs.Allowed.{RunAllows}
use Rattle.fire.specs.step.Allowed.{FireStepAllows}

-- over one net sheet, from its first marking
pub data Reached (net : List ℕ) : List ℕ → Type 0 where
  begun : {after : List ℕ} (m : List ℕ) (told : Answer) → BeginAllows net m (told, after) → number told ≡ 0 → Reached net after
  fired : {m after : List ℕ} → Reached net m → (t : Mode) (told : Answer) → FireAllows net m t (told, after) → Reached net after
  stepped : {m after : List ℕ} → Reached net m → (modes : List ℕ) (told : Answer) → FireStepAllows net m modes (told, after) → Reached net after
  ran : {m after : List ℕ} → Reached net m → (movements : List ℕ) (told : Ran) → RunAllows net movements m (told, after) → Reached net after

-- The same calls over a net sheet and over its complement's, each with a marking of its own: from the first markings, or from any two that correspond.
-- A step that the net accepts and its complement does not is left out ("It is false in general", document 02, P1): there the two markings part.
pub data ReachedBeside (net sheet : List ℕ) : List ℕ → List ℕ → Type 0 where
  given : {m m' : List ℕ} → marking_refusal (net_of net) m ≡ none → Corresponds (net_of net) m m' → ReachedBeside net sheet m m'
  begun : {after after' : List ℕ} (m m' : List ℕ) (told told' : Answer) → BeginAllows net m (told, after) → number told ≡ 0
      → BeginAllows sheet m' (told', after') → number told' ≡ 0 → ReachedBeside net sheet after after'
  fired : {m m' after after' : List ℕ} → ReachedBeside net sheet m m' → (t : Mode) (told told' : Answer) → FireAllows net m t (told, after)
      → FireAllows sheet m' t (told', after') → ReachedBeside net sheet after after'
  stepped : {m m' after after' : List ℕ} → ReachedBeside net sheet m m' → (modes : List ℕ) (told told' : Answer) → FireStepAllows net m modes (told, after)
      → FireStepAllows sheet m' modes (told', after') → (number told ≡ 0 → number told' ≡ 0) → ReachedBeside net sheet after after'
  ran : {m m' after after' : List ℕ} → ReachedBeside net sheet m m' → (movements : List ℕ) (told told' : Ran) → RunAllows net movements m (told, after)
      → RunAllows sheet movements m' (told', after') → ReachedBeside net sheet after after'

-- What one call left, the next accepts as a marking.
abbrev pub ReachedAccepted : Type 0
ReachedAccepted = (net m : List ℕ) → Reached net m → marking_refusal (net_of net) m ≡ none
