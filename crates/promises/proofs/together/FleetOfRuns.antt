-- A ship that is counted has accepted sheets, so that its own calls say the numbers that the totals are made of.
use Prim.Native.Nat.{ℕ, zero, suc, ◌≤◌, ◌<◌}
use mathlib.Core.Path.{◌≡◌, refl, sym, ◌∙◌, ap}
use mathlib.Core.List.Memᴰ
use mathlib.Core.List.{List, [], ◌∷◌, map, map-append, Memᴰ}
use mathlib.Core.Logic.{⊎_elim}
use mathlib.Core.Option.{none}
use lib.IntN.{ℤ, pos}
use lib.ListN.{length, take, get_or}
use lib.Seq.{take-suc}
use native.Mathlib.Omega.{arith}
use Rattle.model.specs.declared.Mode.{Mode}
use Rattle.model.specs.declared.Thing.TheVariants.{Argument}
use Rattle.model.specs.Refusals.{Answer}
use Rattle.model.specs.Refusals.{answer, number}
use Rattle.model.specs.Lists.{table}
use Rattle.model.specs.Nets.{total, pairs, modes, mode_no}
use Rattle.model.specs.Markings.{marking_refusal}
use Rattle.movement.specs.Figures.{change}
use Rattle.model.proofs.First.{left-none, right-none, none_then}
use Rattle.model.proofs.Firing.{mode-there}
use Rattle.movement.proofs.Markings.{marking-test}
use Rattle.movement.proofs.Runs.{runs, accepted-modes}
use Rattle.sheets.specs.Whole.{whole_net, whole_weights, whole_movements}
use Rattle.sheets.specs.Decoded.{net_of, weights_of, movements_of}
use Rattle.fire.proofs.Promises.{start-marks}
use Rattle.run.specs.Calls.{before_run, run_of}
use Rattle.run.proofs.Promises.{runs_keep_lem}
use Rattle.statement.specs.weigh.Calls.{told, figure_refusal, change_refusal}
use Rattle.ships.specs.declared.Fleet.{Fleet}
use Rattle.ships.specs.Ships.{Ship, gained, lost, outcome, start_figure, last_figure, added_by, removed_by, voyage_of, totals}
use Rattle.ships.specs.Entered.{ship_refusal, entered}
use Rattle.statement.specs.fleet.Allowed.{AddShipAllows}
use Rattle.promises.specs.FleetOfCalls.{Calls, none as no_ship, counts, refuses}
use Rattle.promises.proofs.Accepting.{number-none}
use Rattle.promises.proofs.FigureOverRun.{says}
use Rattle.promises.proofs.FleetOfCalls.{fleet_of-calls}
use Rattle.promises.specs.together.FleetOfRuns.{Own, Says, sizes, FleetOfRuns}

-- a ship whose sheets are accepted
pub record Sheets (s : Ship) : Type 0 where
  pub net : whole_net s.net ≡ none
  pub weights : whole_weights (pairs (net_of s.net)) s.weights ≡ none
  pub movements : whole_movements s.movements ≡ none

pub counted-sheets : (f : Fleet) (s : Ship) (o : Answer × Fleet) → AddShipAllows f s.net s.weights s.movements o → number o.0 ≡ 0 → Sheets s
unfolding entered ship_refusal
counted-sheets f s o a e =
    let after = right-none _ _ (right-none _ _ (number-none (ship_refusal f s) (sym (ap number a.0) ∙ e))) in
    record { net = left-none _ _ after; weights = left-none _ _ (right-none _ _ after); movements = left-none _ _ (right-none _ _ (right-none _ _ after)) }

all-sheets : {f last : Fleet} {ships counted : List Ship} → Calls f ships counted last → (s : Ship) → Memᴰ s counted → Sheets s
all-sheets no_ship s m = absurd (Memᴰ.not-nil m)
all-sheets (counts {f = f} {s = u} o a e c) s m =
    ⊎_elim (λ (same : s ≡ u). rw same (counted-sheets f u o a e)) (λ l. all-sheets c s l) (Memᴰ.cases_cons m)
all-sheets (refuses o a e c) s m = all-sheets c s m

-- the numbers of a ship, as they are defined
abbrev own_of : Ship → Own
own_of s =
    record {
      accepted = (outcome s).accepted;
      answer = answer (outcome s).refusal;
      first = start_figure s;
      last = last_figure s;
      change = λ k. change (net_of s.net) (weights_of s.weights) (get_or (movements_of s.movements) k (mode_no 0));
    }

module _ (s : Ship) (is : Sheets s) where
  abbrev start : List ℕ
  start = (net_of s.net).start

  start-accepted : marking_refusal (net_of s.net) start ≡ none
  start-accepted = (marking-test (net_of s.net) start).1 (start-marks s.net is.net)

  begins : before_run s.net s.movements start ≡ none
  unfolding before_run
  begins = none_then is.net (none_then is.movements start-accepted)

  pub runs_as : run_of s.net s.movements start ≡ outcome s
  unfolding run_of
  runs_as = rw begins

  weighed : (m : List ℕ) → marking_refusal (net_of s.net) m ≡ none → figure_refusal s.net s.weights m ≡ none
  unfolding figure_refusal
  weighed m a = none_then is.net (none_then is.weights a)

  changed : (k : ℕ) → k < (outcome s).accepted → change_refusal s.net s.weights (get_or (movements_of s.movements) k (mode_no 0)) ≡ none
  unfolding change_refusal
  changed k h =
      none_then is.net
      (none_then is.weights (mode-there Argument (modes (net_of s.net)) _ (accepted-modes (net_of s.net) (movements_of s.movements) start k h)))

  own-says : Says s (own_of s)
  own-says =
      record {
        runs = λ o a. rw (a.0, runs_as) (refl, refl);
        starts = λ f a. ap told a ∙ says (weighed start start-accepted);
        ends = λ o a f b.
            let left : o.1 ≡ (outcome s).marking = a.1 ∙ ap (λ o. o.marking) runs_as in
            ap told b ∙ rw left (says (weighed (outcome s).marking (rw runs_as at (runs_keep_lem s.net s.movements start start-accepted))));
        moves = λ k h f a. ap told a ∙ says (changed k h);
      }

-- a sum over the first n of a list, by their places in it
taken-table : (f : Mode → ℕ) (ts : List Mode) (n : ℕ) → n ≤ length ts → map f (take n ts) ≡ table n (λ k. f (get_or ts k (mode_no 0)))
unfolding table
taken-table f ts zero h = refl
taken-table f ts (suc n) h = rw (take-suc ts n (mode_no 0) h, map-append, taken-table f ts n (omega arith))

map_same : (f g : Ship → ℕ) → ((s : Ship) → f s ≡ g s) → (ships : List Ship) → map f ships ≡ map g ships
map_same f g same [] = refl
map_same f g same (s ∷ ships) = rw (same s, map_same f g same ships)

sizes-are : (size : ℤ → ℕ) (s : Ship)
    → total (map (λ t. size (change (net_of s.net) (weights_of s.weights) t)) (take (outcome s).accepted (movements_of s.movements))) ≡ sizes size (own_of s)
sizes-are size s =
    ap total (taken-table _ (movements_of s.movements) (outcome s).accepted (runs (net_of s.net) (movements_of s.movements) (net_of s.net).start).part)

pub fleet_of-runs : FleetOfRuns
unfolding totals voyage_of added_by removed_by
fleet_of-runs ships counted last calls =
    let stated = fleet_of-calls ships counted last calls in
    let is = stated.totalled in
    record {
      own = own_of;
      says = λ s m. own-says s (all-sheets calls s m);
      ships = ap (λ (f : Fleet). f.ships) is;
      movements = ap (λ (f : Fleet). f.movements) is;
      by6 = ap (λ (f : Fleet). f.by6) is;
      by11 = ap (λ (f : Fleet). f.by11) is;
      by12 = ap (λ (f : Fleet). f.by12) is;
      by13 = ap (λ (f : Fleet). f.by13) is;
      by14 = ap (λ (f : Fleet). f.by14) is;
      added = ap (λ (f : Fleet). f.added) is ∙ ap (λ l. pos (total l)) (map_same _ _ (sizes-are gained) counted);
      removed = ap (λ (f : Fleet). f.removed) is ∙ ap (λ l. pos (total l)) (map_same _ _ (sizes-are lost) counted);
      balances = stated.balances;
    }
