-- What is promised of runs and certificates. Each statement is a type; docs/ARCHITECTURE.md names the one term of proofs/ that has it.
use Rattle.std.specs.Prelude.{ℕ, ◌≤◌, ◌≡◌, List, ◌↔◌, ◌⊎◌, length, take, get_or}
use Rattle.std.proofs.Math.Option.{none, some}
use Rattle.model.specs.declared.Thing.TheVariants.{Movements}
use Rattle.model.specs.declared.Refusal.{Refusal}
use Rattle.model.specs.Nets.{mode_no}
use Rattle.model.specs.Markings.{marking_refusal}
use Rattle.model.specs.Firing.{mode_refusal}
use Rattle.movement.specs.Promises.{Leads}
use Rattle.sheets.specs.Whole.{whole_net, whole_movements}
use Rattle.sheets.specs.Decoded.{net_of, movements_of}
use Rattle.run.specs.Calls.{before_run, run_of, certify_refusal}

-- "Running stops at the first refused movement, returns how many were accepted, and leaves the marking that those gave."
-- A first part of the list is accepted, which leads to the marking that is left; with no refusal it is the whole list, and otherwise the next movement is the
-- one refused. A run refused before its first movement has accepted none and leaves the marking as it was.
pub record RunLeaves (net movements marking : List ℕ) : Type 0 where
  pub part : (run_of net movements marking).accepted ≤ length (movements_of movements)
  pub leads : Leads (net_of net) (take (run_of net movements marking).accepted (movements_of movements)) marking (run_of net movements marking).marking
  pub whole : ((run_of net movements marking).refusal ≡ none)
      ↔ ((before_run net movements marking ≡ none) × ((run_of net movements marking).accepted ≡ length (movements_of movements)))
  pub before : (r : Refusal) → before_run net movements marking ≡ some r
      → ((run_of net movements marking).refusal ≡ some r) × ((run_of net movements marking).accepted ≡ 0) × ((run_of net movements marking).marking ≡ marking)
  pub stops : (r : Refusal) → (run_of net movements marking).refusal ≡ some r
      → (before_run net movements marking ≡ some r)
      ⊎ (mode_refusal Movements (net_of net) (get_or (movements_of movements) (run_of net movements marking).accepted (mode_no 0)) (run_of net movements marking).marking
      ≡ some r)

abbrev pub RunsLeave : Type 0
RunsLeave = (net movements marking : List ℕ) → RunLeaves net movements marking

-- a run keeps a marking that the marking's test accepts one
abbrev pub RunsKeep : Type 0
RunsKeep = (net movements marking : List ℕ) → marking_refusal (net_of net) marking ≡ none
    → marking_refusal (net_of net) (run_of net movements marking).marking ≡ none

-- "accepted exactly when the list runs whole from the first marking and ends at the claim", both sheets accepted
abbrev pub Certified : Type 0
Certified = (net movements claim : List ℕ)
    → (certify_refusal net movements claim ≡ none)
    ↔ ((whole_net net ≡ none) × (whole_movements movements ≡ none) × Leads (net_of net) (movements_of movements) (net_of net).start claim)
