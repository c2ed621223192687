-- A mode that `is_dead` says yes of (document 02, P2) never fires: alone, in a step, in a run, in a certificate, of what a salvage keeps; in the net, and in the
-- complement, where no mode is locally dead (P4).
use Rattle.model.specs.declared.Refusal.{Refusal}
use Rattle.std.specs.Prelude.{ℕ, ◌<◌, ◌≡◌, true, List, [], ◌∷◌, ◌≢◌, length, take, get_or, Result, Bool}
use Rattle.std.proofs.Math.Option.{none}
use Rattle.model.specs.declared.Mode.{Mode}
use Rattle.model.specs.declared.Thing.TheVariants.{Argument}
use Rattle.model.specs.Refusals.{Answer}
use Rattle.model.specs.Refusals.{number}
use Rattle.model.specs.Replies.{yields}
use Rattle.model.specs.Numbers.{∞}
use Rattle.model.specs.Nets.{mode_no}
use Rattle.model.specs.Firing.{mode_refusal}
use Rattle.second_form.specs.Dead.{is_dead}
use Rattle.second_form.specs.Complement.{complement}
use Rattle.both_forms.specs.Edges.{edge_net}
use Rattle.sheets.specs.Decoded.{movements_of}
use Rattle.fire.specs.Allowed.{TestAllows, FireAllows}
use Rattle.run.specs.declared.Ran.{Ran}
use Rattle.run.specs.Allowed.{RunAllows, CertifyAllows}
use Rattle.fire.specs.step.Calls.{step_modes}
use Rattle.fire.specs.step.Allowed.{TestStepAllows, FireStepAllows}
use Rattle.opened.specs.dead.IsDead.{told}
use Rattle.opened.specs.dead.Allowed.{IsDeadAllows}
use Rattle.run.specs.declared.salvage.Report.{Report}
use Rattle.sentences.specs.Bytes.{Bytes}
use Rattle.sentences.specs.Wrote.{ComplementWrote, SalvageWrote}
use Rattle.sentences.specs.more.Reached.{ReachedBeside}

abbrev pub Among : Mode → List Mode → Type 0
Among t ts = (i : ℕ) × (i < length ts) × (get_or ts i (mode_no 0) ≡ t)

-- over a net sheet, at such markings; certificates and salvage are from the first marking
pub record NeverFiresAt (net : List ℕ) (t : Mode) (At : List ℕ → Type 0) : Type 0 where
  pub test : (m : List ℕ) → At m → (o : Answer) → TestAllows net m t o → number o ≢ 0
  pub fire : (m : List ℕ) → At m → (o : Answer × List ℕ) → FireAllows net m t o → (number o.0 ≢ 0) × (o.1 ≡ m)
  -- a step that it is a member of
  pub test_step : (m modes : List ℕ) → At m → Among t (step_modes modes) → (o : Answer) → TestStepAllows net m modes o → number o ≢ 0
  pub fire_step : (m modes : List ℕ) → At m → Among t (step_modes modes) → (o : Answer × List ℕ) → FireStepAllows net m modes o → (number o.0 ≢ 0) × (o.1 ≡ m)
  -- it is not among the movements that a run accepts
  pub run : (movements m : List ℕ) → At m → (o : Ran × List ℕ) → RunAllows net movements m o → ¬ Among t (take o.0.accepted (movements_of movements))
  pub certify : (movements claim : List ℕ) → Among t (movements_of movements) → (o : Answer) → CertifyAllows net movements claim o → number o ≢ 0
  pub salvage : (damaged sheet : List ℕ) (report : Report) → Bytes damaged → SalvageWrote net damaged sheet report → ¬ Among t (movements_of sheet)

pub record NeverFires (net : List ℕ) (t : Mode) : Type 0 where
  -- at any marking
  pub in_net : NeverFiresAt net t (λ m. Unit {0})
  -- at a marking beside one of the net; test answers 11
  pub in_complement : (sheet : List ℕ) → ComplementWrote net sheet → NeverFiresAt sheet t (λ m'. (m : List ℕ) × ReachedBeside net sheet m m')
  pub by11 : (sheet : List ℕ) → ComplementWrote net sheet → (m m' : List ℕ) → ReachedBeside net sheet m m' → (o : Answer) → TestAllows sheet m' t o
      → number o ≡ 11

abbrev pub DeadNeverFire : Type 0
DeadNeverFire = (net : List ℕ) (t : Mode) (o : Result Bool Refusal) → IsDeadAllows net t o → told o ≡ yields true → NeverFires net t

-- Beside no marking of the net it may: Post 6 at K 5 is dead, and the complement lets it pass where 6 stand at the complement pair, one more than K.
pub record FiresElsewhere : Type 0 where
  pub dead : is_dead (edge_net 5 ∞ 0 6) (mode_no 0) ≡ true
  pub passes : mode_refusal Argument (complement (edge_net 5 ∞ 0 6)) (mode_no 0) (0 ∷ 6 ∷ []) ≡ none
