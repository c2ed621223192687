-- The arcs that a run reports are those of the net's run, or 0; a constant count, and one without the refused movement's arcs, is not allowed.
use Prim.Native.Nat.{ℕ, ◌+◌}
use mathlib.Core.Path.{◌≡◌, refl, ◌∙◌, ap, sym}
use mathlib.Core.List.{List, [], ◌∷◌, map}
use mathlib.Core.Logic.{◌≢◌}
use mathlib.Core.Option.{Option, none, some, none-ne-some}
use lib.ListN.{length, take, get_or}
use native.Mathlib.Omega.{arith}
use Rattle.model.specs.declared.Mode.{Mode}
use Rattle.model.specs.declared.Thing.TheVariants.{Argument}
use Rattle.model.specs.declared.Fault.TheVariants.{NotOneEach}
use Rattle.model.specs.declared.Refusal.{Refusal}
use Rattle.model.specs.First.{◌▸◌, first}
use Rattle.model.specs.Refusals.{wrong}
use Rattle.model.specs.Nets.{PNet, total, mode_no}
use Rattle.model.specs.Markings.{marking_refusal}
use Rattle.movement.specs.Runs.{run}
use Rattle.both_forms.specs.Visits.{arcs_of_mode, visited}
use Rattle.model.proofs.First.{none_then}
use Rattle.movement.proofs.Runs.{runs}
use Rattle.both_forms.proofs.Visits.{visits-bounded}
use Rattle.sheets.specs.Decoded.{net_of, movements_of}
use Rattle.run.specs.Calls.{before_run, run_of, visited_by}
use Rattle.progress.proofs.Visiting.{one_more_lem}
use Rattle.sentences.specs.Calls.{Public, call, told, for_c}
use Rattle.statement.specs.Example as sheets
use Rattle.sentences.specs.P14.{Reported}
use Rattle.sentences.proofs.Outcomes.{begins-none, none-begins, none-accepted}
use Rattle.sentences.specs.ConstantAnswers.{Varies}
use Rattle.sentences.specs.Frauds.{VisitFrauds}
use Rattle.sentences.specs.more.OwnExample as own
use Rattle.sentences.proofs.Handed.{none_below}
use Rattle.sentences.proofs.ConstantAnswers.{accepts_and_refuses, tells, net-bytes, movement-bytes, start}
use Rattle.sentences.proofs.OwnExample.{read_back_lem, movements-read, visits_eight}

module _ (net movements marking : List ℕ) where
  reported : (o : Option Refusal) → before_run net movements marking ≡ o → Reported net movements marking (visited_by net movements marking)
  unfolding visited_by
  reported none e =
      record {
        equal = rw e (λ b. refl);
        nothing = λ no. absurd (no (none-begins net movements marking e));
        bound = rw e (visits-bounded (net_of net) (movements_of movements) marking);
      }
  reported (some r) e =
      record {
        equal = λ b. absurd (none-ne-some r (sym (begins-none net movements marking b) ∙ e));
        nothing = rw e (λ no. refl);
        bound = rw e (omega arith);
      }

  pub reports : {arcs : ℕ} → arcs ≡ visited_by net movements marking → Reported net movements marking arcs
  reports e = rw e (reported _ refl)

-- document 01's own example visits 8 arcs, and none where the marking has no count
not_marked : before_run own.net sheets.movements [] ≡ some (wrong Argument (NotOneEach 0))
unfolding before_run marking_refusal first ◌▸◌
not_marked = none_then read_back_lem.accepted (none_then movements-read (rw read_back_lem.same))

visits-none : visited_by own.net sheets.movements [] ≡ 0
unfolding visited_by
visits-none = rw not_marked

visits_vary : Varies (call Public.run) (λ r. r.visited)
visits_vary =
    accepts_and_refuses (call Public.run) (λ r. r.visited) (own.net, sheets.movements, []) (own.net, sheets.movements, 3 ∷ 0 ∷ [])
    ((net-bytes, movement-bytes, none_below 4294967296), λ a l h. ap (λ r. r.visited) h.0 ∙ visits-none)
    ((net-bytes, movement-bytes, start), λ a l h e. let eight : a.visited ≡ 8 = ap (λ r. r.visited) h.0 ∙ visits_eight in omega arith)

visits_vary_for_c : Varies (for_c Public.run) (λ d. d.arcs)
visits_vary_for_c = tells (call Public.run) (told Public.run) (λ r. r.visited) (λ d. d.arcs) (λ g a. refl) visits_vary

module _ (net : PNet) (ts : List Mode) (m : List ℕ) where
  abbrev k : ℕ
  k = (run net ts m).accepted

  with_refused : (run net ts m).refusal ≢ none → visited net ts m ≡ total (map (arcs_of_mode net) (take k ts)) + arcs_of_mode net (get_or ts k (mode_no 0))
  unfolding visited
  with_refused stopped =
      let is = runs net ts m in
      let short : ¬ (k ≡ length ts) = λ all. stopped (is.whole.1 all) in
      one_more_lem (arcs_of_mode net) ts k (mode_no 0) (omega (arith, is.part, short))

begun-run : (net movements marking : List ℕ) → before_run net movements marking ≡ none
    → run_of net movements marking ≡ run (net_of net) (movements_of movements) marking
unfolding run_of
begun-run net movements marking e = rw e

pub visit_frauds : VisitFrauds
visit_frauds =
    record {
      constant = visits_vary.not_constant;
      constant_for_c = visits_vary_for_c.not_constant;
      refused_left_out = λ net movements marking o a b stopped some-arcs same.
          let counted = (reports net movements marking (ap (λ r. r.visited) a.0)).equal b in
          let ran = begun-run net movements marking (begins-none net movements marking b) in
          let accepted = ap (λ r. r.accepted) a.0 ∙ ap (λ r. r.accepted) ran in
          let refused = ap (λ r. r.refusal) ran in
          let all =
          with_refused (net_of net) (movements_of movements) marking
          (λ n. stopped (none-accepted (ap (λ r. r.answer) a.0) (refused ∙ n))) in
          omega (arith, counted, rw accepted at some-arcs, rw accepted at same, all);
    }
