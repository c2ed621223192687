-- A salvage keeps a mode that the net accepts first, and not one that it refuses.
use Rattle.std.specs.Prelude.{Result, Ok}
use Rattle.model.specs.declared.Refusal.{Refusal}
use Prim.Native.Nat.{ℕ, ◌<◌}
use mathlib.Core.Path.{◌≡◌, sym, ◌∙◌, ap}
use mathlib.Core.List.{List}
use mathlib.Core.Logic.{◌≢◌}
use mathlib.Core.Option.{none}
use lib.ListN.{length, get_or}
use native.Mathlib.Omega.{arith}
use Rattle.model.specs.declared.Mode.{Mode}
use Rattle.model.specs.declared.Thing.TheVariants.{Movements}
use Rattle.model.specs.Nets.{PNet, mode_no}
use Rattle.model.specs.Firing.{mode_refusal}
use Rattle.movement.specs.Runs.{run}
use Rattle.movement.proofs.Runs.{runs}
use Rattle.sheets.specs.Decoded.{net_of}
use Rattle.damaged.specs.Damaged.{modes_in}
use Rattle.run.proofs.salvage.Considered.{modes-length}
use Rattle.run.specs.declared.salvage.Report.{Report}
use Rattle.run.specs.salvage.Salvaged.{trial, kept, salvage_refusal}
use Rattle.run.specs.salvage.Allowed.{SalvageAllows}
use Rattle.run.proofs.salvage.Promises.{report-told}
use Rattle.promises.specs.Frauds.{SalvageFrauds}
use Rattle.promises.proofs.DemandOne.{stays-is}

-- a list whose first movement is accepted
first-kept : (net : PNet) (ts : List Mode) (m : List ℕ) → 0 < length ts → mode_refusal Movements net (get_or ts 0 (mode_no 0)) m ≡ none → (run net ts m).accepted ≢ 0
first-kept net ts m h e q =
    let r = runs net ts m in
    let same : (run net ts m).marking ≡ m = stays-is (rw q at r.leads) in
    let refusal : (run net ts m).refusal ≡ mode_refusal Movements net (get_or ts 0 (mode_no 0)) m = rw (q, same) at (r.refused (omega arith)) in
    omega (arith, r.whole.0 (refusal ∙ e))

-- what is told to be kept
kept-told : (net damaged out : List ℕ) (o : Result Report Refusal × List ℕ) → SalvageAllows net damaged out o → (told : Report) → o.0 ≡ Ok told → told.kept ≡ kept net damaged
kept-told net damaged out o allows told e = ap (λ r. r.kept) (report-told (salvage_refusal net damaged (length out)) (sym e ∙ allows.0)).1

pub salvage-frauds : SalvageFrauds
unfolding trial
salvage-frauds =
    record {
      nothing = λ net damaged out h e o allows told is q.
          first-kept (net_of net) (modes_in damaged) (net_of net).start (rw modes-length h) e (sym (kept-told net damaged out o allows told is) ∙ q);
      everything = λ net damaged out h o allows told is q.
          h ((runs (net_of net) (modes_in damaged) (net_of net).start).whole.1 (sym (kept-told net damaged out o allows told is) ∙ q ∙ sym (modes-length damaged)));
    }
