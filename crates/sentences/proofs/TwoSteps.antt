-- A step over a net sheet and over its complement's: two steps of the model, where the markings correspond.
use Prim.Native.Nat.{ℕ}
use mathlib.Core.Path.{◌≡◌, refl, sym, ◌∙◌, ap}
use mathlib.Core.List.{List}
use mathlib.Core.Option.{none}
use Rattle.model.specs.Nets.{PNet}
use Rattle.model.specs.Markings.{marking_refusal}
use Rattle.second_form.specs.Complement.{complement, Corresponds}
use Rattle.both_forms.specs.Steps.{step_refusal, fired_together}
use Rattle.model.proofs.First.{none_then}
use Rattle.both_forms.proofs.CorrespondingSteps.{steps_back_lem, steps-forth}
use Rattle.sheets.specs.Whole.{whole_net}
use Rattle.sheets.specs.Decoded.{net_of}
use Rattle.fire.specs.step.Calls.{step_modes, test_step_refusal, stepped_by}
use Rattle.model.specs.declared.CapacityRule.TheVariants.{Strong}
use Rattle.movement.proofs.Markings.{marking-test}
use Rattle.sentences.specs.Wrote.{ComplementWrote}
use Rattle.sentences.specs.P1.{NoFiniteInhibitor, TwoSteps}
use Rattle.sentences.proofs.Outcomes.{accepted-none, step-accepts, accepts-step}
use Rattle.sentences.proofs.Written.{net-whole, can-complement, sheet-whole, sheet-same}
use Rattle.sentences.proofs.TwoRuns.{marking-beside}

module _ (net complement marking marking' modes : List ℕ) where
  pub record StepsMatch : Type 0 where
    -- "a step accepted by a complement is accepted by the net", and the markings after correspond again
    pub back : test_step_refusal complement marking' modes ≡ none → test_step_refusal net marking modes ≡ none
    pub after : test_step_refusal complement marking' modes ≡ none → Corresponds (net_of net) (stepped_by net marking modes) (stepped_by complement marking' modes)
    -- "the converse for nets with no finite inhibitor", "kept for rule 0 only"; in general it is false (`StepExamples`), and by rule 1 too (`WeakSteps`)
    pub forth : (net_of net).rule ≡ Strong → NoFiniteInhibitor (net_of net) → test_step_refusal net marking modes ≡ none → test_step_refusal complement marking' modes ≡ none

-- what the calls answer and leave at a marking that is accepted: the step of the net
step_from : (net marking modes : List ℕ) (of : PNet) → net_of net ≡ of → whole_net net ≡ none → marking_refusal (net_of net) marking ≡ none
    → test_step_refusal net marking modes ≡ step_refusal of (step_modes modes) marking
unfolding test_step_refusal
step_from net marking modes of same w a = none_then w (none_then a (ap (λ n. step_refusal n (step_modes modes) marking) same))

stepped_from : (net marking modes : List ℕ) (of : PNet) → net_of net ≡ of → test_step_refusal net marking modes ≡ none
    → stepped_by net marking modes ≡ fired_together of (step_modes modes) marking
stepped_from net marking modes of same e = rw (e, same)

module _ (net sheet : List ℕ) (w : ComplementWrote net sheet) (m m' steps : List ℕ) (a : marking_refusal (net_of net) m ≡ none) (h : Corresponds (net_of net) m m') where
  pub step-match : StepsMatch net sheet m m' steps
  step-match =
      let c = can-complement net sheet w in
      let same = sheet-same net sheet w in
      let ts = step_modes steps in
      let here = step_from net m steps (net_of net) refl (net-whole net sheet w) a in
      let there = step_from sheet m' steps (complement (net_of net)) same (sheet-whole net sheet w) (marking-beside net sheet m m' c same a h) in
      record {
        back = λ e. here ∙ (steps_back_lem (net_of net) c ts m m' h (sym there ∙ e)).0;
        after = λ e.
            let both = steps_back_lem (net_of net) c ts m m' h (sym there ∙ e) in
            rw (stepped_from net m steps (net_of net) refl (here ∙ both.0), stepped_from sheet m' steps (complement (net_of net)) same e) both.1;
        forth = λ strong free e. there ∙ steps-forth (net_of net) strong c free ts m m' h (sym here ∙ e);
      }

pub two_steps_lem : TwoSteps
two_steps_lem net sheet w m m' steps k h =
    let match = step-match net sheet w m m' steps ((marking-test (net_of net) m).1 k) h in
    record {
      back = λ a. step-accepts net m steps (match.back (accepts-step sheet m' steps a));
      after = λ a a' left left' r r' z. rw (r.1, r'.1) (match.after (accepted-none r'.0 z));
      forth = λ strong free a. step-accepts sheet m' steps (match.forth strong free (accepts-step net m steps a));
    }
