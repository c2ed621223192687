-- An accepted step leaves a marking that the net accepts, and moves the figure by the weight change of each of its members.
use Prim.Native.Nat.{ℕ, ◌≤◌, ◌<◌}
use mathlib.Core.Path.{◌≡◌, refl, sym, ◌∙◌, ap}
use mathlib.Core.List.{List, [], ◌∷◌}
use mathlib.Core.Option.{Option, none, some}
use lib.IntN.{ℤ, pos, ◌+ℤ◌, ◌*ℤ◌, +ℤ_assoc, +ℤ_idr}
use native.Mathlib.Omega.{arith}
use Rattle.model.specs.declared.Mode.{Mode}
use Rattle.model.specs.declared.Refusal.{Refusal}
use Rattle.model.specs.Nets.{PNet, pairs, K, count}
use Rattle.model.specs.Markings.{Marking, marking_refusal}
use Rattle.model.specs.Firing.{fired}
use Rattle.movement.specs.Figures.{weight, figure, changes}
use Rattle.both_forms.specs.Steps.{together, step_refusal, fired_together}
use Rattle.movement.proofs.Markings.{marking-test, fired-at}
use Rattle.movement.proofs.Figures.{sum_ext, figure-fired}
use Rattle.movement.proofs.Rooms.{kept-within}
use Rattle.both_forms.proofs.Steps.{step-accepted, step-fired-at, step-fired-length}
use Rattle.sheets.specs.Decoded.{net_of}
use Rattle.fire.specs.step.Calls.{step_modes, test_step_refusal, stepped_by}
use Rattle.sentences.proofs.StepFrauds.{step-accepted_in}

step-marks : (net : PNet) (ts : List Mode) (m : List ℕ) → step_refusal net ts m ≡ none → Marking net (fired_together net ts m)
step-marks net ts m e =
    let passes = (step-accepted net ts m e).passes in
    record {
      one_each = step-fired-length net ts m;
      in_range = λ p h. rw (step-fired-at net ts m p h) (passes.small p h);
      within = λ p h. rw (step-fired-at net ts m p h) (kept-within net.rule (K net p) (together net ts p) (count m p) (passes.enough p h) (passes.room p h));
    }

pub step_keeps : (net m modes : List ℕ) → marking_refusal (net_of net) m ≡ none → marking_refusal (net_of net) (stepped_by net m modes) ≡ none
step_keeps net m modes a = go (test_step_refusal net m modes) refl
  where
    go : (o : Option Refusal) → test_step_refusal net m modes ≡ o → marking_refusal (net_of net) (stepped_by net m modes) ≡ none
    go none e =
        rw e ((marking-test (net_of net) (fired_together (net_of net) (step_modes modes) m)).1 (step-marks (net_of net) (step_modes modes) m (step-accepted_in net m modes e)))
    go (some r) e = rw e a

-- the figure is of the counts alone
figure-same : (net : PNet) (weights : List ℤ) (m m' : List ℕ) → ((p : ℕ) → p < pairs net → count m p ≡ count m' p) → figure net weights m ≡ figure net weights m'
unfolding figure
figure-same net weights m m' same = sum_ext (pairs net) _ _ (λ p h. ap (λ n. weight weights p *ℤ pos n) (same p h))

-- where no pair lacks anything, a step is its first member and then the others
figure-together : (net : PNet) (weights : List ℤ) (ts : List Mode) (m : List ℕ) → ((p : ℕ) → p < pairs net → (together net ts p).pre ≤ count m p)
    → figure net weights (fired_together net ts m) ≡ figure net weights m +ℤ changes net weights ts
unfolding together changes
figure-together net weights [] m enough =
    figure-same net weights (fired_together net [] m) m (λ p h. omega (arith, step-fired-at net [] m p h)) ∙ sym (+ℤ_idr (figure net weights m))
figure-together net weights (t ∷ ts) m enough =
    let next = fired net t m in
    figure-same net weights (fired_together net (t ∷ ts) m) (fired_together net ts next)
    (λ p h. omega (arith, enough p h, step-fired-at net (t ∷ ts) m p h, step-fired-at net ts next p h, fired-at net t m p h))
    ∙ figure-together net weights ts next (λ p h. omega (arith, enough p h, fired-at net t m p h))
    ∙ ap (λ z. z +ℤ changes net weights ts) (figure-fired net weights t m (λ p h. omega (arith, enough p h)))
    ∙ +ℤ_assoc (figure net weights m) _ (changes net weights ts)

pub figure-stepped : (net : PNet) (weights : List ℤ) (ts : List Mode) (m : List ℕ) → step_refusal net ts m ≡ none
    → figure net weights (fired_together net ts m) ≡ figure net weights m +ℤ changes net weights ts
figure-stepped net weights ts m e = figure-together net weights ts m (step-accepted net ts m e).passes.enough
