-- Balanced weights give every marking that calls reach the figure of the first marking.
use Prim.Native.Nat.{ℕ, suc, ◌<◌}
use mathlib.Core.Path.{◌≡◌, refl, sym, ◌∙◌, ap}
use mathlib.Core.Bool.{not}
use mathlib.Core.List.{List, [], ◌∷◌}
use mathlib.Core.Logic.{◌≢◌}
use mathlib.Core.Option.{Option, none, some}
use lib.Dec.{eqb}
use lib.IntN.{ℤ, pos, +ℤ_idr}
use lib.ListN.{length, get_or}
use native.Mathlib.Omega.{arith}
use Rattle.model.specs.declared.Mode.{Mode}
use Rattle.model.specs.declared.Thing.TheVariants.{Argument}
use Rattle.model.specs.Refusals.{Answer}
use Rattle.model.specs.declared.Refusal.{Refusal}
use Rattle.model.specs.declared.Fault.TheVariants.{EndsElsewhere}
use Rattle.model.specs.First.{first}
use Rattle.model.specs.Refusals.{wrong, answer, number}
use Rattle.model.specs.Nets.{PNet, pairs, modes, pair_no, mode_no, count}
use Rattle.model.specs.Markings.{marking_refusal, unequal}
use Rattle.movement.specs.Runs.{run, elsewhere, ends_at, certificate_refusal}
use Rattle.movement.specs.Figures.{figure, changes}
use Rattle.movement.specs.Exclusion.{Balanced}
use Rattle.model.proofs.First.{left-none, right-none, none_then, first_found, only_if_some}
use Rattle.model.proofs.Firing.{accepted-there, accepted-enough}
use Rattle.movement.proofs.Figures.{figure-fired}
use Rattle.movement.proofs.Exclusion.{figure-constant}
use Rattle.both_forms.proofs.Steps.{step-rule}
use Rattle.sheets.specs.Whole.{whole_movements}
use Rattle.sheets.specs.Decoded.{net_of, weights_of, movements_of}
use Rattle.fire.specs.Calls.{begin_refusal, test_refusal, fired_by}
use Rattle.fire.proofs.Promises.{mode-accepted, marking-stays, accepted-begin}
use Rattle.run.specs.Calls.{before_run, run_of, certify_refusal}
use Rattle.run.proofs.Promises.{runs_leave_lem, runs_keep_lem}
use Rattle.fire.specs.step.Calls.{step_modes, test_step_refusal, stepped_by}
use Rattle.statement.specs.exclude.Calls.{exclude_refusal}
use Rattle.statement.proofs.exclude.Promises.{excluded-exactly}
use Rattle.sentences.proofs.Accepting.{number-none}
use Rattle.sentences.proofs.StepFrauds.{step-accepted_in}
use Rattle.sentences.proofs.Exclusion.{no_list_leads_lem, no_sheet-certifies}
use Rattle.sentences.specs.more.Reached.{Reached, begun, fired, stepped, ran, ReachedAccepted}
use Rattle.sentences.specs.more.NeverReached.{NeverReached}
use Rattle.sentences.proofs.Written.{salvages-so}
use Rattle.sentences.proofs.more.Steps.{step_keeps, figure-stepped}

-- where begin is accepted it leaves the first marking
begun-is : (net m : List ℕ) (told : Answer) → told ≡ answer (begin_refusal net m) → number told ≡ 0 → begin_refusal net m ≡ none
begun-is net m told a z = number-none (begin_refusal net m) (sym (ap number a) ∙ z)

pub reached-accepted : ReachedAccepted
reached-accepted net after (begun m told a z) = rw a.1 (marking-stays.begins net m (begun-is net m told a.0 z))
reached-accepted net after (fired {m} b t told a) = rw a.1 (marking-stays.fires net m t (reached-accepted net m b))
reached-accepted net after (stepped {m} b modes told a) = rw a.1 (step_keeps net m modes (reached-accepted net m b))
reached-accepted net after (ran {m} b movements told a) = rw a.1 (runs_keep_lem net movements m (reached-accepted net m b))

-- the members of a step change nothing in all
members_none : (net : PNet) (weights : List ℤ) → Balanced net weights → (ts : List Mode) → ((i : ℕ) → i < length ts → (get_or ts i (mode_no 0)).0 < modes net)
    → changes net weights ts ≡ pos 0
unfolding changes
members_none net weights b [] there = refl
members_none net weights b (t ∷ ts) there = rw (b t (there 0 (omega arith)), members_none net weights b ts (λ i h. there (suc i) (omega arith)))

module _ (net : List ℕ) (weights : List ℤ) (b : Balanced (net_of net) weights) where
  abbrev weighs : List ℕ → ℤ
  weighs m = figure (net_of net) weights m

  fire-same : (m : List ℕ) (t : Mode) → weighs (fired_by net m t) ≡ weighs m
  fire-same m t = go (test_refusal net m t) refl
    where
      go : (o : Option Refusal) → test_refusal net m t ≡ o → weighs (fired_by net m t) ≡ weighs m
      go none e =
          let f = mode-accepted net m t e in
          rw e
          (figure-fired (net_of net) weights t m (accepted-enough Argument (net_of net) t m f)
          ∙ rw (b t (accepted-there Argument (net_of net) t m f)) (+ℤ_idr (weighs m)))
      go (some r) e = rw e

  step_same : (m modes : List ℕ) → weighs (stepped_by net m modes) ≡ weighs m
  step_same m modes = go (test_step_refusal net m modes) refl
    where
      go : (o : Option Refusal) → test_step_refusal net m modes ≡ o → weighs (stepped_by net m modes) ≡ weighs m
      go none e =
          let f = step-accepted_in net m modes e in
          let ts = step_modes modes in
          rw e
          (figure-stepped (net_of net) weights ts m f
          ∙ rw (members_none (net_of net) weights b ts ((step-rule (net_of net) ts m).0 f).2) (+ℤ_idr (weighs m)))
      go (some r) e = rw e

  reached-same : {m : List ℕ} → Reached net m → weighs m ≡ weighs (net_of net).start
  reached-same (begun m told a z) = ap weighs (a.1 ∙ accepted-begin net m (begun-is net m told a.0 z))
  reached-same (fired {m} r t told a) = ap weighs a.1 ∙ fire-same m t ∙ reached-same r
  reached-same (stepped {m} r modes told a) = ap weighs a.1 ∙ step_same m modes ∙ reached-same r
  reached-same (ran {m} r movements told a) =
      ap weighs a.1 ∙ figure-constant (net_of net) weights _ m _ b (runs_leave_lem net movements m).leads ∙ reached-same r

-- of the refusals of a certificate whose list runs whole, 18 alone is left
elsewhere-number : (last claim : List ℕ) (n : ℕ) {r : Refusal} → first n (elsewhere last claim) ≡ some r → number (answer (some r)) ≡ 18
unfolding elsewhere
elsewhere-number last claim n {r} e =
    let at = first_found n (elsewhere last claim) r e in
    let other = not (eqb (count last at.0) (count claim at.0)) in
    let is = only_if_some other (wrong Argument (EndsElsewhere (pair_no at.0))) at.3 in
    ap (λ (x : Refusal). number (answer (some x))) (sym is.1)

only18 : (net : PNet) (ts : List Mode) (claim : List ℕ) → unequal net claim ≡ none → (run net ts net.start).refusal ≡ none → certificate_refusal net ts claim ≢ none
    → number (answer (certificate_refusal net ts claim)) ≡ 18
unfolding certificate_refusal ends_at
only18 net ts claim one whole f = go (first (pairs net) (elsewhere (run net ts net.start).marking claim)) refl
  where
    is : {o : Option Refusal} → first (pairs net) (elsewhere (run net ts net.start).marking claim) ≡ o → certificate_refusal net ts claim ≡ o
    is e = none_then one (none_then whole e)

    go : (o : Option Refusal) → first (pairs net) (elsewhere (run net ts net.start).marking claim) ≡ o → number (answer (certificate_refusal net ts claim)) ≡ 18
    go none e = absurd (f (is e))
    go (some r) e = ap (λ o. number (answer o)) (is e) ∙ elsewhere-number _ claim (pairs net) e

module _ (net weights claim : List ℕ) (e : exclude_refusal net weights claim ≡ none) where
  not_claim : {m : List ℕ} → Reached net m → m ≢ claim
  not_claim r same =
      let x = (excluded-exactly net weights claim).0 e in
      x.differs (ap (figure (net_of net) (weights_of weights)) (sym same) ∙ reached-same net (weights_of weights) x.balanced r)

  one_each_lem : unequal (net_of net) claim ≡ none
  unfolding exclude_refusal marking_refusal
  one_each_lem = left-none _ _ (left-none _ _ (right-none _ _ (right-none _ _ e)))

  sheet_18 : (sheet : List ℕ) → whole_movements sheet ≡ none → (run_of net sheet (net_of net).start).refusal ≡ none
      → number (answer (certify_refusal net sheet claim)) ≡ 18
  unfolding certify_refusal run_of before_run
  sheet_18 sheet whole runs =
      let before = ((runs_leave_lem net sheet (net_of net).start).whole.0 runs).0 in
      let refused = no_sheet-certifies net weights claim e sheet in
      ap (λ o. number (answer o)) (none_then (left-none _ _ before) (none_then whole refl))
      ∙ only18 (net_of net) (movements_of sheet) claim one_each_lem (rw before at runs) (λ q. refused (none_then (left-none _ _ before) (none_then whole q)))

pub never-reached : NeverReached
never-reached net weights claim told a z =
    let e = number-none (exclude_refusal net weights claim) (sym (ap number a) ∙ z) in
    record {
      reached = λ m r. not_claim net weights claim e r;
      along = λ ts m l same. no_list_leads_lem net weights claim e ts (rw same at l);
      certified = λ movements told c zero. no_sheet-certifies net weights claim e movements (number-none (certify_refusal net movements claim) (sym (ap number c) ∙ zero));
      salvaged = λ damaged sheet report bytes w told c.
          let s = salvages-so net damaged sheet report w bytes in
          ap number c ∙ sheet_18 net weights claim e sheet s.accepted s.runs_whole;
    }
