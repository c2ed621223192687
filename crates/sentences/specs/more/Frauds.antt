-- More frauds that a contract excludes, of calls of document 02, beside those of promises/specs/Frauds.antt.
use Rattle.model.specs.declared.Refusal.{Refusal}
use Rattle.std.specs.Prelude.{ℕ, ◌+◌, ◌≤◌, ◌<◌, ◌≡◌, true, List, ◌∷◌, ◌≢◌, Result, Bool}
use Rattle.model.specs.declared.CapacityRule.TheVariants.{Strong}
use Rattle.model.specs.declared.Mode.{Mode}
use Rattle.model.specs.Refusals.{Answer}
use Rattle.model.specs.Refusals.{number}
use Rattle.model.specs.Replies.{yields}
use Rattle.model.specs.Numbers.{fin}
use Rattle.model.specs.Nets.{pairs, mode_no, K, count, row}
use Rattle.both_forms.specs.Steps.{together}
use Rattle.sheets.specs.Decoded.{net_of}
use Rattle.fire.specs.Allowed.{TestAllows}
use Rattle.run.specs.declared.Ran.{Ran}
use Rattle.run.specs.Allowed.{RunAllows}
use Rattle.fire.specs.step.Calls.{step_modes}
use Rattle.fire.specs.step.Allowed.{TestStepAllows}
use Rattle.opened.specs.dead.IsDead as dead
use Rattle.opened.specs.dead.Allowed.{IsDeadAllows}
use Rattle.ships.specs.declared.Fleet.{Fleet}
use Rattle.ships.specs.Ships.{Ship}
use Rattle.statement.specs.fleet.Allowed.{AddShipAllows}

-- A step's test that asks its first member alone (P1): at some pair the members together lack what the first has.
abbrev pub FirstMemberAsked : Type 0
FirstMemberAsked = (net m : List ℕ) (first : ℕ) (later : List ℕ) (p : ℕ) → p < pairs (net_of net)
    → count m p < (together (net_of net) (step_modes (first ∷ later)) p).pre
    → (alone o : Answer) → TestAllows net m (mode_no first) alone → number alone ≡ 0 → TestStepAllows net m (first ∷ later) o → number o ≢ number alone

-- A deadness that asks whether Pre or Post is above K and no more, as before P2: neither is, and the two together are.
abbrev pub AsBeforeP2 : Type 0
AsBeforeP2 = (net : List ℕ) (t : Mode) (p k : ℕ) → (net_of net).rule ≡ Strong → p < pairs (net_of net) → K (net_of net) p ≡ fin k
    → (row (net_of net) t p).pre ≤ k → (row (net_of net) t p).post ≤ k → k < (row (net_of net) t p).pre + (row (net_of net) t p).post
    → (o : Result Bool Refusal) → IsDeadAllows net t o → (dead.told o).carried.number ≡ 0 → dead.told o ≡ yields true

-- A fleet statement that passes over what a counted ship's own run says (P13): the movements accepted, or the number that refused the next.
abbrev pub PassesOver : (Ran → Type 0) → (Fleet → ℕ) → Type 0
PassesOver Shows field = (found : Fleet) (s : Ship) (o : Answer × Fleet) → AddShipAllows found s.net s.weights s.movements o → number o.0 ≡ 0
    → (ran : Ran × List ℕ) → RunAllows s.net s.movements (net_of s.net).start ran → Shows ran.0 → field o.1 ≢ field found

pub record FleetPassesOver : Type 0 where
  pub movements : PassesOver (λ r. r.accepted ≢ 0) (λ f. f.movements)
  pub by6 : PassesOver (λ r. number r.answer ≡ 6) (λ f. f.by6)
  pub by11 : PassesOver (λ r. number r.answer ≡ 11) (λ f. f.by11)
  pub by12 : PassesOver (λ r. number r.answer ≡ 12) (λ f. f.by12)
  pub by13 : PassesOver (λ r. number r.answer ≡ 13) (λ f. f.by13)
  pub by14 : PassesOver (λ r. number r.answer ≡ 14) (λ f. f.by14)

pub record MoreFrauds : Type 0 where
  pub stepping : FirstMemberAsked
  pub dying : AsBeforeP2
  pub counting : FleetPassesOver
