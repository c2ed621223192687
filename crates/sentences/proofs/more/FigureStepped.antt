-- The figure call before and after an accepted step.
use mathlib.Core.Path.{◌≡◌, refl, sym, ◌∙◌, ap}
use mathlib.Core.List.{List}
use mathlib.Core.Option.{none}
use Prim.Native.Nat.{ℕ}
use lib.IntN.{ℤ, ◌+ℤ◌}
use Rattle.model.specs.Refusals.{number}
use Rattle.model.specs.Replies.{yields}
use Rattle.movement.specs.Figures.{figure, changes}
use Rattle.both_forms.specs.Steps.{fired_together}
use Rattle.model.proofs.First.{left-none, right-none, none_then}
use Rattle.sheets.specs.Decoded.{net_of, weights_of}
use Rattle.fire.specs.step.Calls.{step_modes, test_step_refusal, stepped_by}
use Rattle.statement.specs.weigh.Calls.{told, figured, figure_refusal, figure_of}
use Rattle.sentences.proofs.Accepting.{number-none, yielded}
use Rattle.sentences.proofs.StepFrauds.{step-accepted_in}
use Rattle.sentences.proofs.FigureOverRun.{says}
use Rattle.sentences.specs.more.FigureStepped.{FigureStepped}
use Rattle.sentences.proofs.more.Steps.{step_keeps, figure-stepped}

-- a figure that is told was not refused
figure-told : (net weights m : List ℕ) {z : ℤ} → told (figure_of net weights m) ≡ yields z → (figure_refusal net weights m ≡ none) × (z ≡ figure (net_of net) (weights_of weights) m)
unfolding figured
figure-told net weights m =
    let f = figure (net_of net) (weights_of weights) m in
    yielded (λ o. told (figured o f)) f refl (λ r. refl) (figure_refusal net weights m)

after-weighed : (net weights m modes : List ℕ) → figure_refusal net weights m ≡ none → figure_refusal net weights (stepped_by net m modes) ≡ none
unfolding figure_refusal
after-weighed net weights m modes e =
    none_then (left-none _ _ e) (none_then (left-none _ _ (right-none _ _ e)) (step_keeps net m modes (right-none _ _ (right-none _ _ e))))

pub figure-after-step : FigureStepped
figure-after-step net weights m modes after answer a zero before f z is o g =
    let e = number-none (test_step_refusal net m modes) (sym (ap number a.0) ∙ zero) in
    let known = figure-told net weights m (sym (ap told f) ∙ is) in
    let left : stepped_by net m modes ≡ fired_together (net_of net) (step_modes modes) m = rw e in
    ap told g
    ∙ ap (λ m. told (figure_of net weights m)) a.1
    ∙ says (after-weighed net weights m modes known.0)
    ∙ ap yields
    (rw left (figure-stepped (net_of net) (weights_of weights) (step_modes modes) m (step-accepted_in net m modes e))
    ∙ ap (λ z. z +ℤ changes (net_of net) (weights_of weights) (step_modes modes)) (sym known.1))
