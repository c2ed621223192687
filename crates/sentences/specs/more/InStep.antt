-- An audit finds none, whatever is done alike to a net and to its complement.
use Rattle.model.specs.declared.Pair.{Pair}
use Rattle.model.specs.declared.Refusal.{Refusal}
use Rattle.std.specs.Prelude.{Option as Perhaps, ℕ, ◌≡◌, List, ◌≢◌, Result, ℤ}
use Rattle.std.proofs.Math.Option.{none}
use Rattle.model.specs.Refusals.{Answer}
use Rattle.model.specs.Refusals.{number}
use Rattle.model.specs.Replies.{yields}
use Rattle.fire.specs.step.Allowed.{FireStepAllows}
use Rattle.complement.specs.audit.Audits as audits
use Rattle.complement.specs.audit.Allowed.{AuditAllows}
use Rattle.sentences.specs.Wrote.{ComplementWrote}
use Rattle.sentences.specs.more.Reached.{ReachedBeside}

abbrev pub FindsNone : List ℕ → List ℕ → List ℕ → Type 0
FindsNone net m m' = (o : Result (Perhaps (Pair × ℤ)) Refusal) → AuditAllows net m m' o → audits.told o ≡ yields none

module _ (net sheet : List ℕ) where
  pub record KeepsStep : Type 0 where
    -- after begin, fire, run and a step that is answered alike, in any order, from markings that correspond
    pub always : (m m' : List ℕ) → ReachedBeside net sheet m m' → FindsNone net m m'
    -- and a step that the complement alone refuses (`StepExamples` has some) shows at once, unless it changes nothing
    pub parted : (m m' modes after after' : List ℕ) (told told' : Answer) → ReachedBeside net sheet m m' → FireStepAllows net m modes (told, after)
        → FireStepAllows sheet m' modes (told', after') → number told' ≢ 0 → after ≢ m → (o : Result (Perhaps (Pair × ℤ)) Refusal) → AuditAllows net after after' o
        → audits.told o ≢ yields none

abbrev pub InStep : Type 0
InStep = (net sheet : List ℕ) → ComplementWrote net sheet → KeepsStep net sheet
