-- The arcs that a run reports are those of the net's run, or 0; a constant count, and one without the refused movement's arcs, is not allowed.
use Prim.Native.Nat.{ℕ, ◌+◌}
use mathlib.Core.Path.{◌≡◌, refl, ◌∙◌, ap}
use mathlib.Core.List.{List, [], ◌∷◌, map}
use mathlib.Core.Logic.{◌≢◌}
use mathlib.Core.Option.{Option, none, some}
use lib.ListN.{length, take, get_or}
use native.Mathlib.Omega.{arith}
use Rattle.model.specs.declared.Mode.{Mode}
use Rattle.model.specs.declared.Thing.TheVariants.{Argument}
use Rattle.model.specs.declared.Fault.TheVariants.{NotOneEach}
use Rattle.model.specs.declared.Refusal.{Refusal}
use Rattle.model.specs.First.{◌▸◌, first}
use Rattle.model.specs.Refusals.{wrong}
use Rattle.model.specs.Nets.{PNet, total, mode_no}
use Rattle.model.specs.Markings.{marking_refusal}
use Rattle.movement.specs.Runs.{run}
use Rattle.both_forms.specs.Visits.{arcs_of_mode, visited}
use Rattle.model.proofs.First.{none_then}
use Rattle.movement.proofs.Runs.{runs}
use Rattle.both_forms.proofs.Visits.{visits-bounded}
use Rattle.sheets.specs.Decoded.{net_of, movements_of}
use Rattle.run.specs.Calls.{before_run, run_of, visited_by}
use Rattle.run.specs.Allowed.{RunAllows}
use Rattle.progress.proofs.Visiting.{one_more_lem}
use Rattle.abi.specs.Allowed as c
use Rattle.promises.specs.ArcsVisited.{Reported, ArcsVisited}
use Rattle.promises.specs.ConstantAnswers.{Varies}
use Rattle.promises.specs.Frauds.{VisitFrauds}
use Rattle.promises.specs.OwnExample as own
use Rattle.promises.proofs.ConstantAnswers.{accepts_and_refuses}
use Rattle.promises.proofs.ConstantAnswersForC.{tells}
use Rattle.promises.proofs.OwnExample.{read_back_lem, movements-read, visits_eight}
use Rattle.statement.specs.Example as sheets

module _ (net movements marking : List ℕ) where
  reported : (o : Option Refusal) → before_run net movements marking ≡ o → Reported net movements marking (visited_by net movements marking)
  unfolding visited_by
  reported none e =
      record {
        equal = rw e (λ q. refl);
        nothing_tried = λ h. absurd (h e);
        bound = rw e (visits-bounded (net_of net) (movements_of movements) marking);
      }
  reported (some r) e =
      record {
        equal = λ q. let z : ◌≡◌ {A = ℕ} 0 1 = cc in absurd (omega arith);
        nothing_tried = rw e (λ h. refl);
        bound = rw e (omega arith);
      }

  reports : {arcs : ℕ} → arcs ≡ visited_by net movements marking → Reported net movements marking arcs
  reports e = rw e (reported _ refl)

pub arcs-visited : ArcsVisited
arcs-visited =
    record {
      run = λ net movements marking o a. reports net movements marking (ap (λ r. r.visited) a.0);
      for_c = λ net movements marking o a. reports net movements marking (ap (λ r. r.arcs) a.0);
    }

-- document 01's own example visits 8 arcs, and none where the marking has no count
not_marked : before_run own.net sheets.movements [] ≡ some (wrong Argument (NotOneEach 0))
unfolding before_run marking_refusal first ◌▸◌
not_marked = none_then read_back_lem.accepted (none_then movements-read (rw read_back_lem.same))

visits-none : visited_by own.net sheets.movements [] ≡ 0
unfolding visited_by
visits-none = rw not_marked

visits_vary : Varies (λ (i : List ℕ × List ℕ × List ℕ). RunAllows i.0 i.1 i.2) (λ o. o.0.visited)
visits_vary =
    accepts_and_refuses _ _ (own.net, sheets.movements, []) (own.net, sheets.movements, 3 ∷ 0 ∷ []) (λ o a. ap (λ r. r.visited) a.0 ∙ visits-none)
    (λ o a e. let eight : o.0.visited ≡ 8 = ap (λ r. r.visited) a.0 ∙ visits_eight in omega arith)

visits_vary_for_c : Varies (λ (i : List ℕ × List ℕ × List ℕ). c.RunAllows i.0 i.1 i.2) (λ o. o.0.arcs)
visits_vary_for_c = tells visits_vary (λ i p a. ((_, p.1), (refl, a.1), ap (λ r. r.arcs) a.0))

module _ (net : PNet) (ts : List Mode) (m : List ℕ) where
  abbrev k : ℕ
  k = (run net ts m).accepted

  with_refused : (run net ts m).refusal ≢ none → visited net ts m ≡ total (map (arcs_of_mode net) (take k ts)) + arcs_of_mode net (get_or ts k (mode_no 0))
  unfolding visited
  with_refused stopped =
      let is = runs net ts m in
      let short : ¬ (k ≡ length ts) = λ all. stopped (is.whole.1 all) in
      one_more_lem (arcs_of_mode net) ts k (mode_no 0) (omega (arith, is.part, short))

begun-run : (net movements marking : List ℕ) → before_run net movements marking ≡ none
    → run_of net movements marking ≡ run (net_of net) (movements_of movements) marking
unfolding run_of
begun-run net movements marking e = rw e

pub visit_frauds : VisitFrauds
visit_frauds =
    record {
      constant = visits_vary.not_constant;
      constant_for_c = visits_vary_for_c.not_constant;
      refused_left_out = λ net movements marking o a e stopped some-arcs same.
          let counted = (arcs-visited.run net movements marking o a).equal e in
          let ran = begun-run net movements marking e in
          let accepted = ap (λ r. r.accepted) a.0 ∙ ap (λ r. r.accepted) ran in
          let refused = ap (λ r. r.refusal) ran in
          let all = with_refused (net_of net) (movements_of movements) marking (λ n. stopped (refused ∙ n)) in
          omega (arith, counted, rw accepted at some-arcs, rw accepted at same, all);
    }
