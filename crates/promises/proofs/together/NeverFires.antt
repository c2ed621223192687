-- What is accepted at a marking is not dead: alone, in a list that leads somewhere, in a step; and what the complement accepts beside it, the net accepts.
use Prim.Native.Nat.{ℕ, zero, suc, ◌<◌}
use mathlib.Core.Path.{◌≡◌, refl, sym, ◌∙◌, ap, subst}
use mathlib.Core.Bool.{true, false, true≢false}
use mathlib.Core.List.{List}
use mathlib.Core.Logic.{◌≢◌}
use mathlib.Core.Option.{Option, none, some}
use lib.ListN.{length, take, get_or}
use lib.Seq.{take-length}
use native.Mathlib.Nat.{le_of_suc-le-suc, not-suc-le-zero}
use Rattle.model.specs.declared.Mode.{Mode}
use Rattle.model.specs.declared.Thing.{Thing}
use Rattle.model.specs.declared.Thing.TheVariants.{Movements, Argument}
use Rattle.model.specs.Refusals.{Answer}
use Rattle.model.specs.declared.Refusal.{Refusal}
use Rattle.model.specs.Refusals.{answer, number}
use Rattle.model.specs.Nets.{PNet, mode_no, count, entry_at}
use Rattle.model.specs.Markings.{Marking}
use Rattle.model.specs.First.{◌▸◌, first}
use Rattle.model.specs.Lists.{joined}
use Rattle.model.specs.Firing.{rule_refusal, row_refusal, mode_refusal}
use Rattle.second_form.specs.Dead.{dead_pair, is_dead}
use Rattle.second_form.specs.Complement.{bounded, complement_row, new_places, arcs_of, complement}
use Rattle.movement.specs.Promises.{Leads, stays, moves}
use Rattle.model.proofs.First.{left-none, right-none, none_then}
use Rattle.model.proofs.Firing.{accepted-passes, passes_conditions}
use Rattle.movement.proofs.Markings.{marking-test, marking-kept}
use Rattle.second_form.proofs.Possible.{enabled-live}
use Rattle.movement.proofs.Runs.{leads-whole}
use Rattle.both_forms.proofs.Steps.{step_members_lem}
use Rattle.sheets.specs.Whole.{whole_net}
use Rattle.sheets.specs.Decoded.{net_of, movements_of}
use Rattle.fire.specs.Calls.{test_refusal}
use Rattle.fire.proofs.Promises.{start-marks}
use Rattle.run.specs.Calls.{before_run, run_of, certify_refusal}
use Rattle.run.proofs.Promises.{runs_leave_lem, certified}
use Rattle.fire.specs.step.Calls.{step_modes, test_step_refusal}
use Rattle.opened.specs.dead.IsDead.{told, deadness_of}
use Rattle.promises.proofs.Accepting.{number-none}
use Rattle.promises.proofs.DemandOne.{demand_one_lem}
use Rattle.promises.proofs.StepFrauds.{step-accepted_in}
use Rattle.promises.proofs.DeadAsWritten.{dead-there, dead_as_written_lem}
use Rattle.promises.specs.together.Wrote.{ComplementWrote}
use Rattle.promises.specs.together.Reached.{ReachedBeside}
use Rattle.promises.specs.together.NeverFires.{Among, NeverFiresAt, DeadNeverFire, FiresElsewhere}
use Rattle.promises.proofs.together.Written.{answers, is-written, run-alike, salvages}
use Rattle.promises.proofs.together.Beside.{test_back, steps-agree, kept, first-beside}

-- a run of a sheet from the first marking that is not refused accepts every movement of it
module _ (net : List ℕ) (t : Mode) (none-accepted : (movements : List ℕ) → whole_net net ≡ none → ¬ Among t (take (run_of net movements (net_of net).start).accepted (movements_of movements))) where
  whole-silent : (movements : List ℕ) → (run_of net movements (net_of net).start).refusal ≡ none → ¬ Among t (movements_of movements)
  unfolding before_run
  whole-silent movements e among =
      let is = (runs_leave_lem net movements (net_of net).start).whole.0 e in
      none-accepted movements (left-none (whole_net net) _ is.0) (rw (is.1, take-length) among)

  certificate-silent : (movements claim : List ℕ) → Among t (movements_of movements) → certify_refusal net movements claim ≢ none
  unfolding run_of before_run
  certificate-silent movements claim among e =
      let is = (certified net movements claim).0 e in
      let begins = none_then is.0 (none_then is.1 ((marking-test (net_of net) (net_of net).start).1 (start-marks net is.0))) in
      whole-silent movements (rw begins (leads-whole is.2).0) among

-- calls that a mode never fires in, from what their definitions refuse
module _ (net : List ℕ) (t : Mode) (At : List ℕ → Type 0) (no_test : (m : List ℕ) → At m → test_refusal net m t ≢ none)
    (no_step : (m modes : List ℕ) → At m → Among t (step_modes modes) → test_step_refusal net m modes ≢ none)
    (no_run : (movements m : List ℕ) → At m → ¬ Among t (take (run_of net movements m).accepted (movements_of movements)))
    (starts : whole_net net ≡ none → At (net_of net).start) where
  from_start : (movements : List ℕ) → whole_net net ≡ none → ¬ Among t (take (run_of net movements (net_of net).start).accepted (movements_of movements))
  from_start movements w = no_run movements (net_of net).start (starts w)

  not_tested : (m : List ℕ) → At m → (o : Answer) → o ≡ answer (test_refusal net m t) → number o ≢ 0
  not_tested m h o a z = no_test m h (number-none (test_refusal net m t) (sym (ap number a) ∙ z))

  not_stepped : (m modes : List ℕ) → At m → Among t (step_modes modes) → (o : Answer) → o ≡ answer (test_step_refusal net m modes) → number o ≢ 0
  not_stepped m modes h among o a z = no_step m modes h among (number-none (test_step_refusal net m modes) (sym (ap number a) ∙ z))

  silent : NeverFiresAt net t At
  silent =
      record {
        test = not_tested;
        fire = λ m h o a. let refused = not_tested m h o.0 a.0 in (refused, demand_one_lem.fire net m t o a refused);
        test_step = not_stepped;
        fire_step = λ m modes h among o a. let refused = not_stepped m modes h among o.0 a.0 in (refused, demand_one_lem.fire_step net m modes o a refused);
        run = λ movements m h o a. rw a.0 (no_run movements m h);
        certify = λ movements claim among o a z.
            certificate-silent net t from_start movements claim among (number-none (certify_refusal net movements claim) (sym (ap number a) ∙ z));
        salvage = λ damaged sheet report bytes w.
            whole-silent net t from_start sheet (salvages net damaged sheet report w bytes).runs_whole;
      }

-- what a marking lets pass is live
live_at : (about : Thing) (net : PNet) (t : Mode) (m : List ℕ) → Marking net m → mode_refusal about net t m ≡ none → is_dead net t ≡ false
live_at about net t m h e = enabled-live net t (count m) (λ _. h.within) (passes_conditions (accepted-passes about net t m e))

leads-live : {net : PNet} {ts : List Mode} {m m' : List ℕ} → Leads net ts m m' → Marking net m → (t : Mode) (i : ℕ) → i < length ts → get_or ts i (mode_no 0) ≡ t
    → is_dead net t ≡ false
leads-live stays h t i l is = absurd (not-suc-le-zero l)
leads-live {net} (moves {t = u} {m = m} e l) h t zero q is = subst (λ t. is_dead net t ≡ false) is (live_at Movements net u m h e)
leads-live {net} (moves {t = u} {m = m} e l) h t (suc i) q is = leads-live l (marking-kept Movements net u m h e) t i (le_of_suc-le-suc q) is

module _ (net : List ℕ) (t : Mode) (dead : is_dead (net_of net) t ≡ true) where
  not_live : ¬ (is_dead (net_of net) t ≡ false)
  not_live e = true≢false (sym dead ∙ e)

  dead-test : (m : List ℕ) → test_refusal net m t ≢ none
  unfolding test_refusal
  dead-test m e =
      let after = right-none (whole_net net) _ e in
      not_live (live_at Argument (net_of net) t m ((marking-test (net_of net) m).0 (left-none _ _ after)) (right-none _ _ after))

  dead-step : (m modes : List ℕ) → Among t (step_modes modes) → test_step_refusal net m modes ≢ none
  unfolding test_step_refusal
  dead-step m modes among e =
      let marked = (marking-test (net_of net) m).0 (left-none _ _ (right-none (whole_net net) _ e)) in
      not_live (subst (λ u. is_dead (net_of net) u ≡ false) among.2 (step_members_lem (net_of net) (step_modes modes) m (λ _. marked) (step-accepted_in net m modes e) among.0 among.1))

  dead-run : (movements m : List ℕ) → ¬ Among t (take (run_of net movements m).accepted (movements_of movements))
  unfolding before_run
  dead-run movements m = go (before_run net movements m) refl
    where
      go : (o : Option Refusal) → before_run net movements m ≡ o → ¬ Among t (take (run_of net movements m).accepted (movements_of movements))
      go none e among =
          not_live
          (leads-live (runs_leave_lem net movements m).leads ((marking-test (net_of net) m).0 (right-none _ _ (right-none (whole_net net) _ e))) t among.0 among.1 among.2)
      go (some r) e among = not-suc-le-zero (rw ((runs_leave_lem net movements m).before r e).1 at among.1)

-- in the complement
module _ (net sheet : List ℕ) (w : ComplementWrote net sheet) (t : Mode) (dead : is_dead (net_of net) t ≡ true) where
  abbrev Here : List ℕ → Type 0
  Here m' = (m : List ℕ) × ReachedBeside net sheet m m'

  beside-test : (m' : List ℕ) → Here m' → test_refusal sheet m' t ≢ none
  beside-test m' h e = dead-test net t dead h.0 (test_back net sheet w h.0 m' (kept net sheet w h.1) t e)

  beside-step : (m' modes : List ℕ) → Here m' → Among t (step_modes modes) → test_step_refusal sheet m' modes ≢ none
  beside-step m' modes h among e = dead-step net t dead h.0 modes among ((steps-agree net sheet w h.0 m' modes (kept net sheet w h.1)).back e)

  beside-run : (movements m' : List ℕ) → Here m' → ¬ Among t (take (run_of sheet movements m').accepted (movements_of movements))
  beside-run movements m' h =
      let k = kept net sheet w h.1 in
      rw ((run-alike net sheet w).onwards movements h.0 m' k.marked k.corresponds).accepted (dead-run net t dead movements h.0)

  beside-silent : NeverFiresAt sheet t Here
  beside-silent = silent sheet t Here beside-test beside-step beside-run (λ _. ((net_of net).start, first-beside net sheet w))

-- of a mode that the call says yes of
pub dead-never-fire : DeadNeverFire
dead-never-fire net t o a e =
    let says : (told (deadness_of net t)).value ≡ some true = ap (λ r. r.value) (sym (ap told a) ∙ e) in
    let dead = (dead-there net t says).1 in
    record {
      in_net = silent net t (λ m. Unit {0}) (λ m h. dead-test net t dead m) (λ m modes h. dead-step net t dead m modes) (λ movements m h. dead-run net t dead movements m) (λ _. tt);
      in_complement = λ sheet w. beside-silent net sheet w t dead;
      by11 = λ sheet w m m' b o a.
          let k = kept net sheet w b in
          ap number a
          ∙ (rw (is-written net sheet w) at ((dead_as_written_lem net w.out (length sheet) (answers net sheet w)).refused t says m m' k.marked k.corresponds));
    }

pub fires-elsewhere : FiresElsewhere
unfolding row_refusal rule_refusal mode_refusal ◌▸◌ first dead_pair is_dead complement arcs_of new_places complement_row bounded joined entry_at
fires-elsewhere = record { dead = refl; passes = refl }
