-- The two statements of document 02, P1, of the calls: a step over a net sheet and over its complement's, as the complementing call wrote it, "at markings of
-- the two nets that correspond as in demand 3".
use Rattle.std.specs.Prelude.{ℕ, ◌<◌, ◌≡◌, List, length}
use Rattle.std.proofs.Math.Option.{none}
use Rattle.model.specs.declared.CapacityRule.TheVariants.{Strong}
use Rattle.model.specs.Numbers.{∞}
use Rattle.model.specs.Nets.{PNet, arc_no}
use Rattle.model.specs.Replies.{yields}
use Rattle.model.specs.Markings.{marking_refusal}
use Rattle.second_form.specs.Complement.{Corresponds}
use Rattle.sheets.specs.Decoded.{net_of}
use Rattle.sheets.specs.Emitted.{told}
use Rattle.fire.specs.step.Calls.{test_step_refusal, stepped_by}
use Rattle.complement.specs.Complemented.{complement_of}
use Rattle.promises.specs.DemandThree.{as_written}

abbrev pub NoFiniteInhibitor : PNet → Type 0
NoFiniteInhibitor net = (k : ℕ) → k < length net.arcs → (arc_no net.arcs k).entry.inhibitor ≡ ∞

module _ (net complement marking marking' modes : List ℕ) where
  pub record StepsAgree : Type 0 where
    -- "a step accepted by a complement is accepted by the net", and the markings after correspond again
    pub back : test_step_refusal complement marking' modes ≡ none → test_step_refusal net marking modes ≡ none
    pub after : test_step_refusal complement marking' modes ≡ none → Corresponds (net_of net) (stepped_by net marking modes) (stepped_by complement marking' modes)
    -- "the converse for nets with no finite inhibitor", "kept for rule 0 only"; in general it is false (`StepExamples`), and by rule 1 too (`WeakSteps`)
    pub forth : (net_of net).rule ≡ Strong → NoFiniteInhibitor (net_of net) → test_step_refusal net marking modes ≡ none → test_step_refusal complement marking' modes ≡ none

abbrev pub TwoSteps : Type 0
TwoSteps = (net out : List ℕ) (n : ℕ) → told (complement_of net out) ≡ yields n → (marking marking' modes : List ℕ)
    → marking_refusal (net_of net) marking ≡ none → Corresponds (net_of net) marking marking' → StepsAgree net (as_written net out n) marking marking' modes
