-- The figure over a run: the model's figure along the movements that the run call accepted.
use Prim.Native.Nat.{ℕ, zero, suc, ◌≤◌, ◌<◌}
use mathlib.Core.Path.{◌≡◌, refl, sym, ◌∙◌, ap}
use mathlib.Core.List.{List, [], ◌∷◌, ◌++◌}
use mathlib.Core.Option.{Option, none}
use lib.IntN.{ℤ, ◌+ℤ◌, +ℤ_assoc, +ℤ_idl, +ℤ_idr}
use lib.ListN.{length, take, get_or}
use lib.Seq.{take-suc, get_or-take, length-take-le}
use native.Mathlib.Nat.{le_of_suc-le-suc, not-suc-le-zero}
use native.Mathlib.Omega.{arith}
use Rattle.model.specs.declared.Mode.{Mode}
use Rattle.model.specs.declared.Thing.TheVariants.{Movements, Argument}
use Rattle.model.specs.declared.Refusal.{Refusal}
use Rattle.model.specs.Nets.{PNet, modes, mode_no}
use Rattle.movement.specs.Figures.{sum, figure, change, changes}
use Rattle.model.specs.Replies.{yields}
use Rattle.movement.specs.Promises.{Leads, stays, moves}
use Rattle.model.proofs.First.{left-none, right-none, none_then}
use Rattle.model.proofs.Firing.{accepted-there, mode-there}
use Rattle.movement.proofs.Figures.{figure-leads}
use Rattle.sheets.specs.Decoded.{net_of, weights_of, movements_of}
use Rattle.run.specs.Calls.{run_of}
use Rattle.run.proofs.Promises.{runs_leave_lem, runs_keep_lem}
use Rattle.statement.specs.weigh.Calls.{told, figured, figure_refusal, change_refusal}
use Rattle.sentences.specs.Demand2.{FigureOverList}
use Rattle.sentences.proofs.Outcomes.{accepts-figure}

-- the changes of the first n movements of a list, by their places in it
module _ (net : PNet) (weights : List ℤ) where
  changes-last : (ts : List Mode) (t : Mode) → changes net weights (ts ++ t ∷ []) ≡ changes net weights ts +ℤ change net weights t
  unfolding changes
  changes-last [] t = +ℤ_idr (change net weights t) ∙ sym (+ℤ_idl (change net weights t))
  changes-last (u ∷ ts) t = rw (changes-last ts t) (sym (+ℤ_assoc (change net weights u) (changes net weights ts) (change net weights t)))

  changes-are : (ts : List Mode) (n : ℕ) → n ≤ length ts → changes net weights (take n ts) ≡ sum n (λ k. change net weights (get_or ts k (mode_no 0)))
  unfolding changes sum
  changes-are ts zero h = refl
  changes-are ts (suc n) h =
      rw (take-suc ts n (mode_no 0) h, changes-last (take n ts) (get_or ts n (mode_no 0)), changes-are ts n (omega arith))

-- each movement that leads somewhere is there
leads-there : {net : PNet} {ts : List Mode} {m m' : List ℕ} → Leads net ts m m' → (k : ℕ) → k < length ts → (get_or ts k (mode_no 0)).0 < modes net
leads-there stays k h = absurd (not-suc-le-zero h)
leads-there {net} (moves {t = t} {m = m} e l) zero h = accepted-there Movements net t m e
leads-there (moves e l) (suc k) h = leads-there l k (le_of_suc-le-suc h)

-- an accepted call says its value
pub says : {o : Option Refusal} {z : ℤ} → o ≡ none → told (figured o z) ≡ yields z
unfolding figured
says e = rw e

module _ (net movements marking : List ℕ) where
  movement-there : (k : ℕ) → k < (run_of net movements marking).accepted → (get_or (movements_of movements) k (mode_no 0)).0 < modes (net_of net)
  movement-there k h =
      let n = (run_of net movements marking).accepted in
      let ts = movements_of movements in
      rw (← get_or-take n ts k (mode_no 0) h)
      (leads-there (runs_leave_lem net movements marking).leads k (rw (length-take-le n ts (runs_leave_lem net movements marking).part) h))

-- the figure call after the run, and the change call for each accepted movement, accept what the figure call accepted before
module _ (net weights marking : List ℕ) (e : figure_refusal net weights marking ≡ none) where
  after-accepted : (movements : List ℕ) → figure_refusal net weights (run_of net movements marking).marking ≡ none
  unfolding figure_refusal
  after-accepted movements =
      none_then (left-none _ _ e)
      (none_then (left-none _ _ (right-none _ _ e)) (runs_keep_lem net movements marking (right-none _ _ (right-none _ _ e))))

  change-accepted : (t : Mode) → t.0 < modes (net_of net) → change_refusal net weights t ≡ none
  unfolding figure_refusal change_refusal
  change-accepted t h = none_then (left-none _ _ e) (none_then (left-none _ _ (right-none _ _ e)) (mode-there Argument (modes (net_of net)) t h))

pub figure-over-list : FigureOverList
figure-over-list net weights movements marking left r a h =
    let e = accepts-figure net weights marking a in
    let of = net_of net in
    let by = weights_of weights in
    let ts = movements_of movements in
    let k = ap (λ r. r.accepted) h.0 in
    let summed = changes-are of by ts _ (runs_leave_lem net movements marking).part in
    record {
      start = figure of by marking;
      change = λ k. change of by (get_or ts k (mode_no 0));
      starts = λ f g. ap told g ∙ says e;
      moves = λ k' l f g. ap told g ∙ says (change-accepted net weights marking e _ (movement-there net movements marking k' (rw k at l)));
      ends = λ f g.
          ap told g
          ∙ (rw (h.1, k)
          (says (after-accepted net weights marking e movements)
          ∙ ap yields (figure-leads of by (runs_leave_lem net movements marking).leads ∙ ap (λ z. figure of by marking +ℤ z) summed)));
    }
