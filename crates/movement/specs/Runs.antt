-- Running a list of movements, and certificates.
use Rattle.std.specs.Prelude.{ℕ, ◌+◌, not, List, [], ◌∷◌, eqb}
use Rattle.std.proofs.Math.Option.{Option, none, some}
use Rattle.model.specs.declared.Mode.{Mode}
use Rattle.model.specs.declared.Thing.TheVariants.{Movements, Argument}
use Rattle.model.specs.declared.Fault.TheVariants.{EndsElsewhere}
use Rattle.model.specs.declared.Refusal.{Refusal}
use Rattle.model.specs.Refusals.{wrong}
use Rattle.model.specs.First.{◌▸◌, first, only_if}
use Rattle.model.specs.Nets.{PNet, pairs, pair_no, count}
use Rattle.model.specs.Markings.{unequal}
use Rattle.model.specs.Firing.{mode_refusal, fired}

-- "Running stops at the first refused movement, returns how many were accepted, and leaves the marking that those gave."
pub record Outcome : Type 0 where
  pub accepted : ℕ
  pub refusal : Option Refusal
  pub marking : List ℕ

-- the outcome where k movements are accepted and the next one is refused, or goes on to `next`
abbrev pub go_on : Option Refusal → ℕ → List ℕ → Outcome → Outcome
go_on none k m next = next
go_on (some r) k m next = record { accepted = k; refusal = some r; marking = m }

unfoldable pub run_from : PNet → ℕ → List Mode → List ℕ → Outcome
run_from net k [] m = record { accepted = k; refusal = none; marking = m }
run_from net k (t ∷ ts) m = go_on (mode_refusal Movements net t m) k m (run_from net (k + 1) ts (fired net t m))

abbrev pub run : PNet → List Mode → List ℕ → Outcome
run net ts m = run_from net 0 ts m

-- 18: "certificate ends at another marking", at pair p; and the run from the first marking before it
unfoldable pub elsewhere : List ℕ → List ℕ → ℕ → Option Refusal
elsewhere last claim p = only_if (not (eqb (count last p) (count claim p))) (wrong Argument (EndsElsewhere (pair_no p)))

unfoldable pub ends_at : PNet → List Mode → List ℕ → Option Refusal
ends_at net ts claim = (run net ts net.start).refusal ▸ first (pairs net) (elsewhere (run net ts net.start).marking claim)

-- "Certificate: .. 17 for the claim, the run (6, 11 to 14), 18."; net and movements are sheets, which a call reads before
unfoldable pub certificate_refusal : PNet → List Mode → List ℕ → Option Refusal
certificate_refusal net ts claim = unequal net claim ▸ ends_at net ts claim
