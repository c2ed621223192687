-- A step over a net sheet and over its complement's: two steps of the model, where the markings correspond.
use Prim.Native.Nat.{ℕ}
use mathlib.Core.Path.{◌≡◌, refl, sym, ◌∙◌, ap}
use mathlib.Core.List.{List}
use mathlib.Core.Option.{none}
use lib.ListN.{length}
use Rattle.model.specs.Nets.{PNet}
use Rattle.model.specs.Markings.{marking_refusal}
use Rattle.second_form.specs.Complement.{complement}
use Rattle.both_forms.specs.Steps.{step_refusal, fired_together}
use Rattle.model.proofs.First.{none_then}
use Rattle.both_forms.proofs.CorrespondingSteps.{steps_back_lem, steps-forth}
use Rattle.sheets.specs.Whole.{whole_net}
use Rattle.sheets.specs.Decoded.{net_of}
use Rattle.fire.specs.step.Calls.{step_modes, test_step_refusal, stepped_by}
use Rattle.complement.specs.Complemented.{complementing_refusal}
use Rattle.promises.specs.DemandThree.{as_written}
use Rattle.promises.specs.TwoSteps.{TwoSteps}
use Rattle.promises.proofs.DemandThree.{complementable}
use Rattle.promises.proofs.TwoRuns.{length-accepted, written, net-accepted, marking-beside}

-- what the calls answer and leave at a marking that is accepted: the step of the net
step_from : (net marking modes : List ℕ) (of : PNet) → net_of net ≡ of → whole_net net ≡ none → marking_refusal (net_of net) marking ≡ none
    → test_step_refusal net marking modes ≡ step_refusal of (step_modes modes) marking
unfolding test_step_refusal
step_from net marking modes of same w a = none_then w (none_then a (ap (λ n. step_refusal n (step_modes modes) marking) same))

stepped_from : (net marking modes : List ℕ) (of : PNet) → net_of net ≡ of → test_step_refusal net marking modes ≡ none
    → stepped_by net marking modes ≡ fired_together of (step_modes modes) marking
stepped_from net marking modes of same e = rw (e, same)

pub two_steps_lem : TwoSteps
two_steps_lem net out n e marking marking' modes a h =
    let q = length-accepted (complementing_refusal net (length out)) _ e in
    let c = complementable net (length out) q in
    let w = written net out q e in
    let sheet = as_written net out n in
    let ts = step_modes modes in
    let here = step_from net marking modes (net_of net) refl (net-accepted net (length out) q) a in
    let there = step_from sheet marking' modes (complement (net_of net)) w.same w.reads_back (marking-beside net sheet marking marking' c w.same a h) in
    record {
      back = λ e. here ∙ (steps_back_lem (net_of net) c ts marking marking' h (sym there ∙ e)).0;
      after = λ e.
          let both = steps_back_lem (net_of net) c ts marking marking' h (sym there ∙ e) in
          rw (stepped_from net marking modes (net_of net) refl (here ∙ both.0), stepped_from sheet marking' modes (complement (net_of net)) w.same e) both.1;
      forth = λ strong free e. there ∙ steps-forth (net_of net) strong c free ts marking marking' h (sym here ∙ e);
    }
