-- Steps by outcomes (document 02, P1).
use Prim.Native.Nat.{ℕ}
use mathlib.Core.Path.{◌≡◌}
use mathlib.Core.List.{List}
use mathlib.Core.Option.{none}
use lib.ListN.{length-map, get_or-map}
use Rattle.model.specs.Nets.{mode_no}
use Rattle.model.proofs.First.{left-none, right-none, none_then}
use Rattle.movement.proofs.Markings.{marking-test}
use Rattle.both_forms.proofs.Steps.{step-rule, step_after_lem}
use Rattle.sheets.specs.Decoded.{net_of}
use Rattle.fire.specs.step.Calls.{step_modes, test_step_refusal}
use Rattle.sentences.specs.P1.{StepFires, Stepping}
use Rattle.sentences.proofs.Outcomes.{accepted-none, none-accepted}

module _ (net m steps : List ℕ) where
  steps-fire : test_step_refusal net m steps ≡ none → StepFires net m steps
  unfolding test_step_refusal
  steps-fire e =
      let r = (step-rule (net_of net) (step_modes steps) m).0 (right-none _ _ (right-none _ _ e)) in
      record {
        sheet = left-none _ _ e;
        marked = (marking-test (net_of net) m).0 (left-none _ _ (right-none _ _ e));
        some = rw length-map at r.0;
        many = rw length-map at r.1;
        there = λ i h. rw (get_or-map mode_no steps i 0) at (r.2 i (rw length-map h));
        enabled = r.3;
        within = r.4;
      }

  fires-step : StepFires net m steps → test_step_refusal net m steps ≡ none
  unfolding test_step_refusal
  fires-step f =
      none_then f.sheet
      (none_then ((marking-test (net_of net) m).1 f.marked)
      ((step-rule (net_of net) (step_modes steps) m).1
      (rw length-map f.some, rw length-map f.many, λ i h. rw (get_or-map mode_no steps i 0) (f.there i (rw length-map at h)), f.enabled, f.within)))

pub stepping : Stepping
unfolding test_step_refusal
stepping =
    record {
      test = λ net m steps a h. (λ z. steps-fire net m steps (accepted-none {o = test_step_refusal net m steps} h z), λ f. none-accepted {o = test_step_refusal net m steps} h (fires-step net m steps f));
      fire = λ net m steps left a h. (λ z. steps-fire net m steps (accepted-none {o = test_step_refusal net m steps} h.0 z), λ f. none-accepted {o = test_step_refusal net m steps} h.0 (fires-step net m steps f));
      leaves = λ net m steps left a h z.
          let e = accepted-none {o = test_step_refusal net m steps} h.0 z in
          rw (h.1, e) (step_after_lem (net_of net) (step_modes steps) m (right-none _ _ (right-none _ _ e)));
    }
