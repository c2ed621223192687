-- "These frauds are shown to break it." Each is excluded by the contract that the call's source states.
use Rattle.model.specs.declared.Refusal.{Refusal}
use Rattle.std.specs.Prelude.{Option as Perhaps, ℕ, ◌+◌, ◌≤◌, ◌<◌, ◌≡◌, List, [], ◌∷◌, ◌++◌, map, ◌↔◌, ◌≢◌, negsuc, length, take, drop, get_or, Result, Ok, None, ℤ}
use Rattle.std.proofs.Math.Option.{none}
use Rattle.model.specs.declared.Pair.{Pair}
use Rattle.model.specs.declared.Mode.{Mode}
use Rattle.model.specs.declared.Thing.TheVariants.{Movements}
use Rattle.model.specs.Refusals.{Answer}
use Rattle.model.specs.Refusals.{number}
use Rattle.model.specs.Replies.{yields}
use Rattle.model.specs.Numbers.{fin}
use Rattle.model.specs.Nets.{PNet, total, pairs, mode_no, K, row}
use Rattle.model.specs.Firing.{mode_refusal, fired}
use Rattle.both_forms.specs.Steps.{together}
use Rattle.second_form.specs.Complement.{Corresponds}
use Rattle.both_forms.specs.Audit.{OutOfStep}
use Rattle.movement.specs.Promises.{Leads}
use Rattle.both_forms.specs.Visits.{arcs_of_mode}
use Rattle.movement.specs.Figures.{change}
use Rattle.sheets.specs.Decoded.{net_of, weights_of, movements_of}
use Rattle.sheets.specs.Emitted as emitting
use Rattle.fire.specs.Allowed.{FireAllows}
use Rattle.run.specs.declared.Ran.{Ran}
use Rattle.run.specs.Calls.{before_run, run_of}
use Rattle.run.specs.Allowed.{RunAllows, CertifyAllows}
use Rattle.fire.specs.step.Calls.{step_modes}
use Rattle.fire.specs.step.Allowed.{FireStepAllows}
use Rattle.ships.specs.declared.Fleet.{Fleet}
use Rattle.ships.specs.Ships.{Ship, accepted}
use Rattle.statement.specs.fleet.Allowed.{AddShipAllows}
use Rattle.statement.specs.exclude.Promises.{Excluded}
use Rattle.statement.specs.exclude.Allowed.{ExcludeAllows}
use Rattle.complement.specs.Allowed.{ComplementAllows}
use Rattle.convert.specs.Allowed.{ToVersion1Allows, ToVersion2Allows}
use Rattle.convert.specs.strip.Allowed.{StripAllows}
use Rattle.pnml.specs.Pnml.{opening, closing}
use Rattle.export.specs.Allowed.{ExportPnmlAllows}
use Rattle.import.specs.Allowed.{ImportPnmlAllows}
use Rattle.complement.specs.audit.Audits as audits
use Rattle.complement.specs.audit.Allowed.{AuditAllows}
use Rattle.damaged.specs.Damaged.{considered, modes_in}
use Rattle.run.specs.declared.salvage.Report.{Report}
use Rattle.run.specs.salvage.Salvaged.{trial}
use Rattle.run.specs.salvage.Allowed.{SalvageAllows}
use Rattle.abi.specs.Allowed as c
use Rattle.promises.specs.ConstantAnswers.{NotConstant, ConstantAnswers}
use Rattle.promises.specs.ConstantAnswersForC.{ConstantAnswersForC}
use Rattle.promises.specs.ConstantAmounts.{ConstantAmounts}

-- "A firing that writes nothing breaks demand 2's rule": an accepted firing of a mode that takes from some pair another number than it gives leaves another marking
abbrev pub WritesNothing : Type 0
WritesNothing = (net marking : List ℕ) (t : Mode) (p : ℕ) → p < pairs (net_of net) → (row (net_of net) t p).pre ≢ (row (net_of net) t p).post
    → (o : Answer × List ℕ) → FireAllows net marking t o → number o.0 ≡ 0 → o.1 ≢ marking

-- "a complement that copies a net with a finite pair breaks demand 3's capacity sum"
pub record CopiesNet : Type 0 where
  -- where complementing accepts, the net's own sheet is no output
  pub excluded : (net out : List ℕ) (p k : ℕ) → p < pairs (net_of net) → K (net_of net) p ≡ fin k
      → (o : Result ℕ Refusal × List ℕ) → ComplementAllows net out o → (emitting.told o.0).carried.number ≡ 0 → take (length net) o.1 ≢ net
  -- no marking of the copy corresponds to one of the net: it has no pair that holds the rest of the capacity
  pub no_sum : (net : PNet) (m m' : List ℕ) → length m' ≡ pairs net → (p k : ℕ) → p < pairs net → K net p ≡ fin k → ¬ Corresponds net m m'

-- a conversion that copies the sheet: where one accepts, the sheet that it was given is no output
pub record CopiesSheet : Type 0 where
  pub to_version2 : (net out : List ℕ) (o : Result ℕ Refusal × List ℕ) → ToVersion2Allows net out o → (emitting.told o.0).carried.number ≡ 0
      → take (length net) o.1 ≢ net
  pub to_version1 : (net out : List ℕ) (o : Result ℕ Refusal × List ℕ) → ToVersion1Allows net out o → (emitting.told o.0).carried.number ≡ 0
      → take (length net) o.1 ≢ net

-- A strip that appends nothing: where one accepts, the sheet that it was given is no output, and no sheet of the same net is one.
pub record StripFrauds : Type 0 where
  pub copied : (net : List ℕ) (p : Pair) (out : List ℕ) (o : Result ℕ Refusal × List ℕ) → StripAllows net p out o → (emitting.told o.0).carried.number ≡ 0
      → take (length net) o.1 ≢ net
  pub same_net : (net : List ℕ) (p : Pair) (out : List ℕ) (o : Result ℕ Refusal × List ℕ) (n : ℕ) → StripAllows net p out o → emitting.told o.0 ≡ yields n
      → net_of (take n o.1) ≢ net_of net

-- An export of the opening and the closing text alone; an import that answers 20 to all, though export wrote the text, or that names one position always (document 02, P5).
pub record ExchangeFrauds : Type 0 where
  pub empty_page : (net out : List ℕ) (o : Result ℕ Refusal × List ℕ) (n : ℕ) → ExportPnmlAllows net out o → emitting.told o.0 ≡ yields n
      → take n o.1 ≢ opening ++ closing
  pub none_read : (net out : List ℕ) (o : Result ℕ Refusal × List ℕ) (n : ℕ) → ExportPnmlAllows net out o → emitting.told o.0 ≡ yields n
      → (out' : List ℕ) (o' : Result ℕ Refusal × List ℕ) → ImportPnmlAllows (take n o.1) out' o' → (emitting.told o'.0).carried.number ≢ 20
  pub one_position : NotConstant (λ (i : List ℕ × List ℕ). ImportPnmlAllows i.0 i.1) (λ o. (emitting.told o.0).carried.position)
  pub one_position_for_c : NotConstant (λ (i : List ℕ × List ℕ). c.ImportPnmlAllows i.0 i.1) (λ o. o.0.answer.position)

-- what the modes of a list take from pair p in all, and what they give
unfoldable pub taken : PNet → List Mode → ℕ → ℕ
taken net [] p = 0
taken net (t ∷ ts) p = (row net t p).pre + taken net ts p

unfoldable pub given : PNet → List Mode → ℕ → ℕ
given net [] p = 0
given net (t ∷ ts) p = (row net t p).post + given net ts p

module _ (net movements marking : List ℕ) where
  -- the accepted movements after the first
  abbrev later : List Mode
  later = drop 1 (take (run_of net movements marking).accepted (movements_of movements))

  abbrev after_first : List ℕ
  after_first = fired (net_of net) (get_or (movements_of movements) 0 (mode_no 0)) marking

-- of a list the first k movements are accepted, one after another, and the next, if there is one, is refused
pub record AcceptsFirst (net : PNet) (ts : List Mode) (m : List ℕ) (k : ℕ) : Type 0 where
  pub part : k ≤ length ts
  pub after : List ℕ
  pub leads : Leads net (take k ts) m after
  pub next : k < length ts → mode_refusal Movements net (get_or ts k (mode_no 0)) after ≢ none

-- "A run that fires only its first movement, or invents the accepted count, breaks demand 2."
pub record RunFrauds : Type 0 where
  -- where sheets and marking are accepted
  pub invented : (net movements marking : List ℕ) (o : Ran × List ℕ) → RunAllows net movements marking o → before_run net movements marking ≡ none
      → (k : ℕ) → (o.0.accepted ≡ k) ↔ AcceptsFirst (net_of net) (movements_of movements) marking k
  -- those accepted after the first change some count in all (with two accepted: the second does)
  pub first_only : (net movements marking : List ℕ) (p : ℕ) → p < pairs (net_of net)
      → taken (net_of net) (later net movements marking) p ≢ given (net_of net) (later net movements marking) p
      → (o : Ran × List ℕ) → RunAllows net movements marking o → o.1 ≢ after_first net movements marking

-- A run that reports a constant count of arcs, or one that leaves out the movement at which it stops, which has some (document 02, P14).
pub record VisitFrauds : Type 0 where
  pub constant : NotConstant (λ (i : List ℕ × List ℕ × List ℕ). RunAllows i.0 i.1 i.2) (λ o. o.0.visited)
  pub constant_for_c : NotConstant (λ (i : List ℕ × List ℕ × List ℕ). c.RunAllows i.0 i.1 i.2) (λ o. o.0.arcs)
  pub refused_left_out : (net movements marking : List ℕ) (o : Ran × List ℕ) → RunAllows net movements marking o → before_run net movements marking ≡ none
      → (run_of net movements marking).refusal ≢ none → 0 < arcs_of_mode (net_of net) (get_or (movements_of movements) o.0.accepted (mode_no 0))
      → o.0.visited ≢ total (map (arcs_of_mode (net_of net)) (take o.0.accepted (movements_of movements)))

-- A step that fires only its first member: those after it take another number from some pair than they give.
abbrev pub FirstMemberAlone : Type 0
FirstMemberAlone = (net marking : List ℕ) (first : ℕ) (later : List ℕ) (p : ℕ) → p < pairs (net_of net)
    → (together (net_of net) (step_modes later) p).pre ≢ (together (net_of net) (step_modes later) p).post
    → (o : Answer × List ℕ) → FireStepAllows net marking (first ∷ later) o → number o.0 ≡ 0 → o.1 ≢ fired (net_of net) (mode_no first) marking

-- An audit that always finds none: some pair is out of step.
abbrev pub AlwaysInStep : Type 0
AlwaysInStep = (net marking beside : List ℕ) (p : ℕ) → p < pairs (net_of net) → OutOfStep (net_of net) marking beside p
    → (o : Result (Perhaps (Pair × ℤ)) Refusal) → AuditAllows net marking beside o → (audits.told o).carried.number ≡ 0 → o ≢ (Ok None)

-- An exclusion that accepts every claim, or none: a claim that is certified is refused, whatever the weights; one that they exclude is accepted.
pub record ExclusionFrauds : Type 0 where
  pub everything : (net weights movements claim : List ℕ) (certified told : Answer) → CertifyAllows net movements claim certified → number certified ≡ 0
      → ExcludeAllows net weights claim told → number told ≢ 0
  pub nothing : (net weights claim : List ℕ) → Excluded net weights claim → (told : Answer) → ExcludeAllows net weights claim told → number told ≡ 0

-- A salvage that keeps nothing, though the net accepts the first mode at its first marking; or everything, though it refuses one.
pub record SalvageFrauds : Type 0 where
  pub nothing : (net damaged out : List ℕ) → 0 < considered damaged → mode_refusal Movements (net_of net) (get_or (modes_in damaged) 0 (mode_no 0)) (net_of net).start ≡ none
      → (o : Result Report Refusal × List ℕ) → SalvageAllows net damaged out o → (report : Report) → o.0 ≡ Ok report → report.kept ≢ 0
  pub everything : (net damaged out : List ℕ) → (trial net damaged).refusal ≢ none
      → (o : Result Report Refusal × List ℕ) → SalvageAllows net damaged out o → (report : Report) → o.0 ≡ Ok report → report.kept ≢ considered damaged

-- A fleet statement that never raises `removed`, with an accepted movement that takes weight off, or that counts no ship.
pub record FleetFrauds : Type 0 where
  pub never_removed : (found : Fleet) (s : Ship) (k n : ℕ) → k < length (accepted s)
      → change (net_of s.net) (weights_of s.weights) (get_or (accepted s) k (mode_no 0)) ≡ negsuc n
      → (o : Answer × Fleet) → AddShipAllows found s.net s.weights s.movements o → number o.0 ≡ 0 → o.1.removed ≢ found.removed
  pub never_counted : (found : Fleet) (s : Ship) (o : Answer × Fleet) → AddShipAllows found s.net s.weights s.movements o → number o.0 ≡ 0
      → o.1.ships ≢ found.ships

pub record Frauds : Type 0 where
  pub constant : ConstantAnswers
  pub constant_for_c : ConstantAnswersForC
  pub constant_amount : ConstantAmounts
  pub firing : WritesNothing
  pub copying : CopiesNet
  pub converting : CopiesSheet
  pub stripping : StripFrauds
  pub exchanging : ExchangeFrauds
  pub running : RunFrauds
  pub visiting : VisitFrauds
  pub stepping : FirstMemberAlone
  pub auditing : AlwaysInStep
  pub excluding : ExclusionFrauds
  pub salvaging : SalvageFrauds
  pub counting : FleetFrauds
