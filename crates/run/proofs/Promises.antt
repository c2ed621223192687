-- The promises, from what the model proves of runs and certificates.
use Prim.Native.Nat.{ℕ}
use mathlib.Core.Path.{◌≡◌, refl, sym, ◌∙◌}
use mathlib.Core.List.{List}
use mathlib.Core.Logic.{inl, inr}
use mathlib.Core.Option.{Option, none, some}
use lib.ListN.{length, get_or}
use native.Mathlib.Omega.{arith}
use Rattle.model.specs.declared.Mode.{Mode}
use Rattle.model.specs.declared.Thing.TheVariants.{Movements}
use Rattle.model.specs.declared.Refusal.{Refusal}
use Rattle.model.specs.Nets.{PNet, mode_no}
use Rattle.model.specs.Firing.{mode_refusal}
use Rattle.movement.specs.Runs.{run}
use Rattle.movement.specs.Promises.{stays}
use Rattle.model.proofs.First.{left-none, right-none, none_then}
use Rattle.movement.proofs.Markings.{marking-test}
use Rattle.movement.proofs.Runs.{runs, certificates}
use Rattle.sheets.specs.Whole.{whole_net, whole_movements}
use Rattle.sheets.specs.Decoded.{net_of, movements_of}
use Rattle.fire.proofs.Promises.{start-marks}
use Rattle.run.proofs.Running.{leads_keep}
use Rattle.run.specs.Calls.{before_run, run_of, certify_refusal}
use Rattle.run.specs.Promises.{RunLeaves, RunsLeave, RunsKeep, Certified}

some_not_none : {A : Type 0} {x : A} → ¬ (some x ≡ none)
some_not_none e = let z : ◌≡◌ {A = ℕ} 0 1 = cc in omega arith

-- the refusal of a run is that of the movement after the accepted ones
stop_is : (net : PNet) (ts : List Mode) (m : List ℕ) (r : Refusal) → (run net ts m).refusal ≡ some r
    → mode_refusal Movements net (get_or ts (run net ts m).accepted (mode_no 0)) (run net ts m).marking ≡ some r
stop_is net ts m r q =
    let is = runs net ts m in
    let short : ¬ ((run net ts m).accepted ≡ length ts) = λ all. some_not_none (sym q ∙ is.whole.1 all) in
    sym (is.refused (omega (arith, is.part, short))) ∙ q

pub runs_leave_lem : RunsLeave
unfolding run_of
runs_leave_lem net movements marking = go (before_run net movements marking) refl
  where
    go : (o : Option Refusal) → before_run net movements marking ≡ o → RunLeaves net movements marking
    go none e =
        let is = runs (net_of net) (movements_of movements) marking in
        record {
          part = rw e is.part;
          leads = rw e is.leads;
          whole = rw e (λ q. (refl, is.whole.0 q), λ h. is.whole.1 h.1);
          before = λ r q. absurd (some_not_none (sym q ∙ e));
          stops = rw e (λ r q. inr (stop_is (net_of net) (movements_of movements) marking r q));
        }
    go (some x) e =
        record {
          part = rw e (omega arith);
          leads = rw e stays;
          whole = rw e (λ q. absurd (some_not_none q), λ h. absurd (some_not_none h.0));
          before = rw e (λ r q. (q, refl, refl));
          stops = rw e (λ r q. inl q);
        }

pub runs_keep_lem : RunsKeep
runs_keep_lem net movements marking h =
    (marking-test (net_of net) (run_of net movements marking).marking).1
    (leads_keep (runs_leave_lem net movements marking).leads ((marking-test (net_of net) marking).0 h))

pub certified : Certified
unfolding certify_refusal
certified net movements claim = (
  λ e.
      let e₁ = right-none (whole_net net) _ e in
      let sheet = left-none (whole_net net) _ e in
      (sheet, left-none (whole_movements movements) _ e₁, (certificates (net_of net) (movements_of movements) claim (start-marks net sheet).one_each).0 (right-none (whole_movements movements) _ e₁)),
  λ h.
      none_then h.0
      (none_then h.1 ((certificates (net_of net) (movements_of movements) claim (start-marks net h.0).one_each).1 h.2)),
)
