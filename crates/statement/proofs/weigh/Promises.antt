-- The promises about the figure.
use mathlib.Core.Path.{◌≡◌, ap, ◌∙◌}
use mathlib.Core.List.{List}
use mathlib.Core.Option.{Option, none, some}
use Prim.Native.Nat.{ℕ}
use lib.IntN.{ℤ}
use Rattle.model.specs.declared.Mode.{Mode}
use Rattle.model.specs.declared.Thing.TheVariants.{Argument}
use Rattle.model.specs.declared.Refusal.{Refusal}
use Rattle.model.specs.Firing.{mode_refusal, fired}
use Rattle.movement.specs.Figures.{figure, change}
use Rattle.model.proofs.First.{left-none, right-none, none_then}
use Rattle.movement.proofs.Markings.{marking-test, marking-kept}
use Rattle.model.proofs.Firing.{accepted-enough}
use Rattle.movement.proofs.Figures as model
use Rattle.sheets.specs.Decoded.{net_of, weights_of}
use Rattle.fire.specs.Calls.{test_refusal}
use Rattle.fire.proofs.Promises.{mode-accepted}
use Rattle.statement.specs.weigh.Calls.{figured, told, figure_refusal, change_refusal}
use Rattle.statement.specs.weigh.Promises.{FigureIsSum, ChangeIsSum, FigureFired}

-- an accepted call has its value
value-is : {o : Option Refusal} {z : ℤ} → o ≡ none → (told (figured o z)).value ≡ some z
unfolding figured
value-is e = rw e

pub figure-is-sum : FigureIsSum
unfolding figure
figure-is-sum net weights marking e = value-is e

pub change-is-sum : ChangeIsSum
unfolding change
change-is-sum net weights t e = value-is e

module _ (net weights marking : List ℕ) (t : Mode) (e : figure_refusal net weights marking ≡ none) (f : test_refusal net marking t ≡ none) where
  change-accepted : change_refusal net weights t ≡ none
  unfolding figure_refusal change_refusal mode_refusal
  change-accepted = none_then (left-none _ _ e) (none_then (left-none _ _ (right-none _ _ e)) (left-none _ _ (mode-accepted net marking t f)))

  after-accepted : figure_refusal net weights (fired (net_of net) t marking) ≡ none
  unfolding figure_refusal
  after-accepted =
      none_then (left-none _ _ e)
      (none_then (left-none _ _ (right-none _ _ e))
      ((marking-test (net_of net) _).1
      (marking-kept Argument (net_of net) t marking ((marking-test (net_of net) marking).0 (right-none _ _ (right-none _ _ e))) (mode-accepted net marking t f))))

pub figure-fired : FigureFired
figure-fired net weights marking t e f =
    record {
      figure = figure (net_of net) (weights_of weights) marking;
      change = change (net_of net) (weights_of weights) t;
      before = value-is e;
      moved = value-is (change-accepted net weights marking t e f);
      after =
          rw f
          (value-is (after-accepted net weights marking t e f)
          ∙ ap some
          (model.figure-fired (net_of net) (weights_of weights) t marking (accepted-enough Argument (net_of net) t marking (mode-accepted net marking t f))));
    }
