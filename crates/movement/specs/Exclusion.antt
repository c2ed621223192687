-- Proof that a state can't happen: weights that show a claimed marking to be out of reach (document 02, P8).
-- "Accept it exactly when the weight change of every mode is 0 and the figure of the claimed marking differs from that of the first marking."
use Rattle.std.specs.Prelude.{ℕ, ◌<◌, ◌≡◌, Bool, false, not, List, ◌↔◌, ◌≢◌, eqb, ℤ, pos, negsuc}
use Rattle.std.proofs.Math.Option.{Option, none}
use Rattle.model.specs.declared.Mode.{Mode}
use Rattle.model.specs.declared.Thing.TheVariants.{Net}
use Rattle.model.specs.declared.Fault.TheVariants.{Unbalanced, EqualFigures}
use Rattle.model.specs.declared.Refusal.{Refusal}
use Rattle.model.specs.First.{◌▸◌, first, only_if}
use Rattle.model.specs.Refusals.{wrong}
use Rattle.model.specs.Nets.{PNet, modes, mode_no}
use Rattle.movement.specs.Figures.{figure, change}
use Rattle.movement.specs.Promises.{Leads}

abbrev pub equal : ℤ → ℤ → Bool
equal (pos a) (pos b) = eqb a b
equal (pos a) (negsuc b) = false
equal (negsuc a) (pos b) = false
equal (negsuc a) (negsuc b) = eqb a b

-- 21: an unbalanced mode, whose weight change is not 0; a dead mode counts too
abbrev pub unbalanced_at : PNet → List ℤ → ℕ → Option Refusal
unbalanced_at net weights t = only_if (not (equal (change net weights (mode_no t)) (pos 0))) (wrong Net (Unbalanced (mode_no t)))

-- 22: "when the figures are equal"
unfoldable pub same_figure : PNet → List ℤ → List ℕ → Option Refusal
same_figure net weights claim = only_if (equal (figure net weights claim) (figure net weights net.start)) (wrong Net EqualFigures)

-- "then 21 with the first unbalanced mode, then 22 when the figures are equal"; net, weights and marking are tested before
unfoldable pub claim_refusal : PNet → List ℤ → List ℕ → Option Refusal
claim_refusal net weights claim = first (modes net) (unbalanced_at net weights) ▸ same_figure net weights claim

-- "the weight change of every mode is 0"
abbrev pub Balanced : PNet → List ℤ → Type 0
Balanced net weights = (t : Mode) → t.0 < modes net → change net weights t ≡ pos 0

-- "Accept it exactly when .."
abbrev pub ClaimAccepted : Type 0
ClaimAccepted = (net : PNet) (weights : List ℤ) (claim : List ℕ)
    → (claim_refusal net weights claim ≡ none) ↔ (Balanced net weights × (figure net weights claim ≢ figure net weights net.start))

-- "for such weights the figure is constant over any list"
abbrev pub FigureConstant : Type 0
FigureConstant = (net : PNet) (weights : List ℤ) (ts : List Mode) (m m' : List ℕ) → Balanced net weights → Leads net ts m m'
    → figure net weights m' ≡ figure net weights m

-- "no list of movements leads to an accepted claim": of any length, from the first marking
abbrev pub OutOfReach : Type 0
OutOfReach = (net : PNet) (weights : List ℤ) (claim : List ℕ) → claim_refusal net weights claim ≡ none
    → (ts : List Mode) → ¬ Leads net ts net.start claim
