-- An accepted step does not leave the marking that its first member alone gives.
use Prim.Native.Nat.{ℕ, ◌<◌}
use mathlib.Core.Path.{◌≡◌, sym, ◌∙◌, ap}
use mathlib.Core.List.{List, ◌∷◌}
use mathlib.Core.Logic.{◌≢◌}
use mathlib.Core.Option.{none}
use native.Mathlib.Omega.{arith}
use Rattle.model.specs.declared.Mode.{Mode}
use Rattle.model.specs.Refusals.{number}
use Rattle.model.specs.Nets.{PNet, pairs, count, row}
use Rattle.model.specs.Firing.{after, fired}
use Rattle.both_forms.specs.Steps.{together, step_refusal, fired_together}
use Rattle.model.proofs.First.{right-none}
use Rattle.movement.proofs.Markings.{row-fired-at}
use Rattle.both_forms.proofs.Steps.{step-accepted, step-fired-at}
use Rattle.sheets.specs.Decoded.{net_of}
use Rattle.fire.specs.step.Calls.{step_modes, test_step_refusal, stepped_by}
use Rattle.sentences.specs.Frauds.{FirstMemberAlone}
use Rattle.sentences.proofs.Accepting.{number-none}

fired-at : (net : PNet) (t : Mode) (m : List ℕ) (p : ℕ) → p < pairs net → count (fired net t m) p ≡ after (row net t p) (count m p)
unfolding fired
fired-at net t m = row-fired-at (pairs net) (row net t) m

first_not_all : (net : PNet) (t : Mode) (ts : List Mode) (m : List ℕ) (p : ℕ) → p < pairs net → step_refusal net (t ∷ ts) m ≡ none
    → (together net ts p).pre ≢ (together net ts p).post → fired_together net (t ∷ ts) m ≢ fired net t m
unfolding together
first_not_all net t ts m p h e apart same =
    apart
    (omega (arith, (step-accepted net (t ∷ ts) m e).passes.enough p h, step-fired-at net (t ∷ ts) m p h, fired-at net t m p h, ap (λ m. count m p) same))

pub step-accepted_in : (net marking modes : List ℕ) → test_step_refusal net marking modes ≡ none → step_refusal (net_of net) (step_modes modes) marking ≡ none
unfolding test_step_refusal
step-accepted_in net marking modes e = right-none _ _ (right-none _ _ e)

pub first-member-alone : FirstMemberAlone
first-member-alone net marking first later p h apart o a n same =
    let modes = first ∷ later in
    let e = number-none (test_step_refusal net marking modes) (sym (ap number a.0) ∙ n) in
    let left : stepped_by net marking modes ≡ fired_together (net_of net) (step_modes modes) marking = rw e in
    first_not_all (net_of net) _ (step_modes later) marking p h (step-accepted_in net marking modes e) apart (sym (a.1 ∙ left) ∙ same)
