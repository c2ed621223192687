-- The modes of damaged bytes run alike in a net and in its complement: demand 3 along that list.
use Rattle.std.specs.Prelude.{Result}
use Prim.Native.Nat.{ℕ, ◌-◌}
use mathlib.Core.Path.{◌≡◌, refl, sym, ◌∙◌, ap}
use mathlib.Core.List.{List}
use mathlib.Core.Option.{Option, none, some, none-ne-some}
use lib.ListN.{length}
use lib.Seq.{length-take-le}
use native.Mathlib.Omega.{arith}
use Rattle.sentences.specs.Bytes.{Bytes}
use Rattle.model.specs.declared.Refusal.{Refusal}
use Rattle.model.specs.Refusals.{answer}
use Rattle.model.specs.Replies.{yields}
use Rattle.movement.specs.Runs.{run}
use Rattle.second_form.specs.Complement.{complement}
use Rattle.second_form.specs.DemandThree.{Agreement, becomes}
use Rattle.second_form.proofs.Demand3.{demand3}
use Rattle.sheets.specs.Decoded.{net_of}
use Rattle.run.specs.declared.Ran.{Ran}
use Rattle.run.specs.Calls.{run_of}
use Rattle.run.specs.Allowed.{RunAllows}
use Rattle.run.proofs.Promises.{runs_leave_lem}
use Rattle.damaged.specs.Damaged.{considered, modes_in}
use Rattle.run.proofs.salvage.Considered.{modes-length}
use Rattle.run.specs.declared.salvage.Report.{Report}
use Rattle.run.specs.salvage.Salvaged.{told, salvaged, sheet_of_first, trial, kept, report, fresh_sheet, salvage_refusal}
use Rattle.run.specs.salvage.Allowed.{SalvageAllows}
use Rattle.run.specs.salvage.Promises.{Salvages}
use Rattle.sentences.specs.Wrote.{ComplementWrote, SalvageWrote}
use Rattle.sentences.specs.more.Reached.{ran}
use Rattle.sentences.specs.more.SalvagesAlike.{ReportsAlike, SalvagedAlike, RunsInBoth, SalvagesAlike}
use Rattle.sentences.proofs.Written.{can-complement, net-whole, sheet-whole, sheet-same, salvages-so}
use Rattle.sentences.proofs.TwoRuns.{RunsMatch, run-match}
use Rattle.sentences.proofs.more.Beside.{first-beside, kept as kept-beside, in_step_lem}

module _ (net sheet : List ℕ) (w : ComplementWrote net sheet) (damaged : List ℕ) where
  agrees : Agreement (net_of net) (modes_in damaged)
  agrees = (demand3 (net_of net) (can-complement net sheet w)).runs (modes_in damaged)

  in_complement_lem : trial sheet damaged ≡ run (complement (net_of net)) (modes_in damaged) (complement (net_of net)).start
  unfolding trial
  in_complement_lem = ap (λ n. run n (modes_in damaged) n.start) (sheet-same net sheet w)

  kept_same : kept sheet damaged ≡ kept net damaged
  unfolding trial
  kept_same = ap (λ o. o.accepted) in_complement_lem ∙ agrees.accepted

  refusal-same : (room : ℕ) → salvage_refusal sheet damaged room ≡ salvage_refusal net damaged room
  unfolding salvage_refusal
  refusal-same room = rw (kept_same, net-whole net sheet w, sheet-whole net sheet w)

  fresh-same : fresh_sheet sheet damaged ≡ fresh_sheet net damaged
  fresh-same = ap (sheet_of_first damaged) kept_same

  reported : (o : Option Refusal) {x r : Report} → told (salvaged o x) ≡ yields r → x ≡ r
  reported none {x} {r} e = let v : some x ≡ some r = ap (λ reply. reply.value) e in cc
  reported (some y) {x} {r} e = let v : none ≡ some r = ap (λ reply. reply.value) e in absurd (none-ne-some r v)

  reports-alike : ReportsAlike net damaged (report net damaged) (report sheet damaged)
  unfolding trial
  reports-alike =
      record {
        kept = kept_same;
        dropped = ap (λ k. considered damaged - k) kept_same;
        length = ap length fresh-same;
        stop = ap (λ o. answer o.refusal) in_complement_lem ∙ ap answer agrees.refusal;
      }

  carried-alone : (o : Option Refusal) (x y : Report) → (told (salvaged o x)).carried ≡ (told (salvaged o y)).carried
  carried-alone none x y = refl
  carried-alone (some r) x y = refl

  salvaged-alike : (out : List ℕ) (o o' : Result Report Refusal × List ℕ) → SalvageAllows net damaged out o → SalvageAllows sheet damaged out o' → SalvagedAlike net damaged o o'
  salvaged-alike out o o' a a' =
      let same = refusal-same (length out) in
      let here = salvage_refusal net damaged (length out) in
      let there : o'.0 ≡ salvaged here (report sheet damaged) = a'.0 ∙ ap (λ r. salvaged r (report sheet damaged)) same in
      record {
        output = a'.1 ∙ rw (same, fresh-same) (sym a.1);
        carried = rw (a.0, there) (carried-alone here (report sheet damaged) (report net damaged));
        reports = λ r r' e e'.
            rw (← reported here (sym (ap told a.0) ∙ e), ← reported here (sym (ap told there) ∙ e')) reports-alike;
      }

  module _ (fresh : List ℕ) (report : Report) (bytes : Bytes damaged) (s : SalvageWrote net damaged fresh report) where
    is : Salvages net damaged fresh report
    is = salvages-so net damaged fresh report s bytes

    both : RunsMatch net sheet fresh (net_of net).start (net_of sheet).start
    both = let k = kept-beside net sheet w (first-beside net sheet w) in (run-match net sheet w).onwards fresh (net_of net).start (net_of sheet).start k.marked k.corresponds

    whole-there : (run_of sheet fresh (net_of sheet).start).refusal ≡ none
    unfolding becomes
    whole-there = both.refusal is.accepted ∙ rw is.runs_whole

    all-kept : (run_of net fresh (net_of net).start).accepted ≡ report.kept
    all-kept =
        ((runs_leave_lem net fresh (net_of net).start).whole.0 is.runs_whole).1
        ∙ ap length is.leading
        ∙ length-take-le report.kept (modes_in damaged) (omega (arith, is.counted, modes-length damaged))

    runs_in_both : (o o' : Ran × List ℕ) → RunAllows net fresh (net_of net).start o → RunAllows sheet fresh (net_of sheet).start o'
        → RunsInBoth net report.kept o o'
    runs_in_both o o' a a' =
        record {
          whole = (rw (a.0, is.runs_whole) refl, rw (a'.0, whole-there) refl);
          accepted = (ap (λ r. r.accepted) a.0 ∙ all-kept, ap (λ r. r.accepted) a'.0 ∙ both.accepted ∙ all-kept);
          finds_none = (in_step_lem net sheet w).always o.1 o'.1 (ran (first-beside net sheet w) fresh o.0 o'.0 a a');
        }

pub salvages-alike : SalvagesAlike
salvages-alike net sheet w damaged = record { alike = salvaged-alike net sheet w damaged; runs = λ fresh report bytes s. runs_in_both net sheet w damaged fresh report bytes s }
