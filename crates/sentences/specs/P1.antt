-- Document 02, P1. Several movements as one step.
use Rattle.std.specs.Prelude.{ℕ, ◌≤◌, ◌<◌, ◌≡◌, List, ◌↔◌, length, get_or}
use Rattle.std.proofs.Math.Option.{none}
use Rattle.model.specs.Refusals.{Answer}
use Rattle.model.specs.declared.CapacityRule.TheVariants.{Strong}
use Rattle.model.specs.Refusals.{number}
use Rattle.model.specs.Numbers.{fin, ∞, limit}
use Rattle.model.specs.Nets.{PNet, pairs, modes, count, arc_no}
use Rattle.model.specs.Markings.{Marking}
use Rattle.model.specs.Billington.{Follows}
use Rattle.second_form.specs.Complement.{Corresponds}
use Rattle.sheets.specs.Whole.{whole_net}
use Rattle.sheets.specs.Decoded.{net_of}
use Rattle.fire.specs.step.Calls.{step_modes}
use Rattle.fire.specs.step.Allowed.{TestStepAllows, FireStepAllows}
use Rattle.both_forms.specs.Steps.{together, fired_together, StepEnables, OnlyFewer}
use Rattle.both_forms.specs.Edges.{edge_net}
use Rattle.sentences.specs.Calls.{Public}
use Rattle.sentences.specs.Outcomes.{Accepts}
use Rattle.sentences.specs.Wrote.{ComplementWrote}
use Rattle.sentences.specs.CallTables.{HasTable}

-- "a list of 1 to 64 modes, repeats allowed. It is enabled when, at every pair, summed Pre ≤ M, M + summed Post ≤ K, and M ≤ the least I of its members.": of a net
-- and a marking that are accepted, and with no new count above 1,000,000
pub record StepFires (net marking steps : List ℕ) : Type 0 where
  pub sheet : whole_net net ≡ none
  pub marked : Marking (net_of net) marking
  pub some : 1 ≤ length steps
  pub many : length steps ≤ 64
  pub there : (i : ℕ) → i < length steps → get_or steps i 0 < modes (net_of net)
  pub enabled : StepEnables (net_of net) (step_modes steps) (count marking)
  pub within : (p : ℕ) → p < pairs (net_of net) → count (fired_together (net_of net) (step_modes steps) marking) p ≤ limit

-- it gives M - Pre + Post of the sums
pub record Stepping : Type 0 where
  pub test : (net marking steps : List ℕ) (a : Answer) → TestStepAllows net marking steps a → (number a ≡ 0) ↔ StepFires net marking steps
  pub fire : (net marking steps left : List ℕ) (a : Answer) → FireStepAllows net marking steps (a, left) → (number a ≡ 0) ↔ StepFires net marking steps
  pub leaves : (net marking steps left : List ℕ) (a : Answer) → FireStepAllows net marking steps (a, left) → number a ≡ 0
      → Follows (pairs (net_of net)) (together (net_of net) (step_modes steps)) (count marking) (count left) × (length left ≡ pairs (net_of net))

abbrev pub NoFiniteInhibitor : PNet → Type 0
NoFiniteInhibitor net = (k : ℕ) → k < length net.arcs → (arc_no net.arcs k).entry.inhibitor ≡ ∞

-- a step over a net sheet and over its complement's, "at markings of the two nets that correspond as in demand 3"
module _ (net sheet m m' steps : List ℕ) where
  pub record StepsAgree : Type 0 where
    -- "a step accepted by a complement is accepted by the net", and the markings after correspond again
    pub back : Accepts Public.test_step (sheet, m', steps) → Accepts Public.test_step (net, m, steps)
    pub after : (a a' : Answer) (left left' : List ℕ) → FireStepAllows net m steps (a, left) → FireStepAllows sheet m' steps (a', left') → number a' ≡ 0
        → Corresponds (net_of net) left left'
    -- "the converse for nets with no finite inhibitor", "kept for rule 0 only" (P10)
    pub forth : (net_of net).rule ≡ Strong → NoFiniteInhibitor (net_of net) → Accepts Public.test_step (net, m, steps) → Accepts Public.test_step (sheet, m', steps)

abbrev pub TwoSteps : Type 0
TwoSteps = (net sheet : List ℕ) → ComplementWrote net sheet → (m m' steps : List ℕ) → Marking (net_of net) m → Corresponds (net_of net) m m'
    → StepsAgree net sheet m m' steps

pub record P1 : Type 0 where
  -- "a list of 1 to 64 modes, repeats allowed. It is enabled when, at every pair, summed Pre ≤ M, M + summed Post ≤ K, and M ≤ the least I of its members."
  pub stepping : Stepping
  -- "Prove, at markings of the two nets that correspond as in demand 3, that a step accepted by a complement is accepted by the net. Prove the converse for nets with
  -- no finite inhibitor."
  pub two_steps : TwoSteps
  -- "It is false in general: source document 000, section 6.3, has K 5, count 3, I 4, Pre 1, where three at once pass in the net and only two in the complement."
  pub false_in_general : OnlyFewer (edge_net 5 (fin 4) 1 0) 3 2 2
  -- "Refusals: net and marking, 4 for an empty or too long step, then 6, 11, 12, 13, 14 over the sums."
  pub test_step : HasTable Public.test_step
  pub fire_step : HasTable Public.fire_step
