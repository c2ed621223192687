-- What a run reports of the movements that it accepts, and that it keeps a marking one.
use Prim.Native.Nat.{ℕ, ◌≤◌, ◌<◌}
use mathlib.Core.Path.{◌≡◌, sym, ◌∙◌, ap}
use mathlib.Core.List.{List}
use lib.ListN.{length, get_or}
use native.Mathlib.Omega.{arith}
use Rattle.model.specs.declared.Mode.{Mode}
use Rattle.model.specs.declared.Thing.TheVariants.{Movements}
use Rattle.model.specs.Refusals.{Answer}
use Rattle.std.specs.Prelude.{Ok}
use Rattle.model.specs.Nets.{PNet, mode_no}
use Rattle.model.specs.Markings.{Marking}
use Rattle.model.specs.Firing.{mode_refusal}
use Rattle.movement.specs.Runs.{run}
use Rattle.both_forms.specs.Visits.{visited}
use Rattle.movement.proofs.Markings.{marking-kept}
use Rattle.movement.specs.Promises.{Leads, stays, moves}
use Rattle.model.specs.Refusals.{answer}
use Rattle.movement.proofs.Runs.{runs}
use Rattle.sheets.specs.Listed.{mode_at, modes_from}
use Rattle.sheets.proofs.Listed.{modes_from_length, modes_from_at}
use Rattle.run.specs.declared.Ran.{Ran}
use Rattle.progress.specs.declared.Progress.{Progress}
use Rattle.progress.specs.Progress.{Accepts}
use Rattle.run.specs.Parts.{Reports}

abbrev pub told : ℕ → ℕ → Answer → Ran
told k v a = record { accepted = k; visited = v; answer = a }

-- a run keeps a marking one
pub leads_keep : {net : PNet} {ts : List Mode} {m m' : List ℕ} → Leads net ts m m' → Marking net m → Marking net m'
leads_keep stays h = h
leads_keep {net} (moves {t = t} {m = m} e l) h = leads_keep l (marking-kept Movements net t m h e)

-- what a run tells, once it is known how many movements it accepts: the first that is refused is refused by the marking left
module _ (net : PNet) (s : List ℕ) (start count : ℕ) (m₀ : List ℕ) {done : Progress} {m : List ℕ} (is : Accepts net (modes_from s start count) m₀ done m) where
  abbrev ts : List Mode
  ts = modes_from s start count

  pub marking-left : Marking net m₀ → Marking net m
  marking-left h = rw is.leaves (leads_keep (runs net ts m₀).leads h)

  reports : {a : Answer} → a ≡ answer (run net ts m₀).refusal → Reports (run net ts m₀) (visited net ts m₀) (told done.accepted done.visited a) m
  reports {a} e =
      record {
        tells = ap (λ k. told k done.visited a) is.accepted ∙ ap (λ v. told (run net ts m₀).accepted v a) is.visits ∙ ap (told (run net ts m₀).accepted (visited net ts m₀)) e;
        leaves = is.leaves;
      }

  pub reports-refused : {t : Mode} {a : Answer} → done.accepted < count → t ≡ mode_at s start done.accepted → a ≡ answer (mode_refusal Movements net t m)
      → Reports (run net ts m₀) (visited net ts m₀) (told done.accepted done.visited a) m
  reports-refused {t} {a} h q e =
      let there : done.accepted < length ts = rw modes_from_length h in
      let this : get_or ts done.accepted (mode_no 0) ≡ t = modes_from_at s start count (mode_no 0) done.accepted h ∙ sym q in
      let refusal = rw (← is.accepted, ← is.leaves, this) at ((runs net ts m₀).refused (rw (← is.accepted) there)) in
      reports (e ∙ ap answer (sym refusal))

  pub reports-whole : count ≤ done.accepted → Reports (run net ts m₀) (visited net ts m₀) (told done.accepted done.visited (Ok tt)) m
  reports-whole h =
      let all = runs net ts m₀ in
      let whole : (run net ts m₀).accepted ≡ length ts = omega (arith, all.part, is.accepted, modes_from_length s start count) in
      reports (ap answer (sym (all.whole.1 whole)))
