-- What a run does, by induction over the list; and certificates.
use Prim.Native.Nat.{ℕ, zero, suc, ◌+◌, ◌<◌}
use mathlib.Core.Path.{◌≡◌, refl, sym, ◌∙◌, ap}
use mathlib.Core.List.{List, [], ◌∷◌}
use mathlib.Core.Logic.{◌↔◌, ◌⊎◌, inl, inr, ⊎_elim}
use mathlib.Core.Option.{Option, none, some}
use lib.ListN.{length, take, get_or}
use lib.Seq.{take-length, ext_get_or, get_or-take, length-take-le}
use native.Mathlib.Nat.{le_of_suc-le-suc, not-suc-le-zero}
use native.Mathlib.Omega.{arith}
use borrow.Author.Tests.{eqb-true, eq-eqb, not-false}
use Rattle.model.specs.declared.Mode.{Mode}
use Rattle.model.specs.declared.Thing.TheVariants.{Movements}
use Rattle.model.specs.declared.Refusal.{Refusal}
use Rattle.model.specs.Nets.{PNet, pairs, modes, mode_no, count}
use Rattle.model.specs.Firing.{mode_refusal, fired}
use Rattle.movement.specs.Runs.{Outcome, go_on, run_from, run, elsewhere, ends_at, certificate_refusal}
use Rattle.movement.specs.Promises.{Leads, stays, moves, RunIs, Runs, Certificates}
use Rattle.model.proofs.First.{left-none, right-none, none_then, first-each, first-all, only_if_none}
use Rattle.model.proofs.Firing.{accepted-there}
use Rattle.movement.proofs.Markings.{fired-length}

-- an outcome that k accepted movements and then `steps` more give
record From (net : PNet) (k : ℕ) (ts : List Mode) (m : List ℕ) (o : Outcome) : Type 0 where
  steps : ℕ
  counted : o.accepted ≡ k + steps
  leads : Leads net (take steps ts) m o.marking
  ends : ((o.refusal ≡ none) × (steps ≡ length ts))
      ⊎ ((r : Refusal) × (steps < length ts) × (o.refusal ≡ some r) × (mode_refusal Movements net (get_or ts steps (mode_no 0)) o.marking ≡ some r))

from_run : (net : PNet) (k : ℕ) (ts : List Mode) (m : List ℕ) → From net k ts m (run_from net k ts m)
unfolding run_from
from_run net k [] m = record { steps = 0; counted = omega arith; leads = stays; ends = inl (refl, refl) }
from_run net k (t ∷ ts) m = go (mode_refusal Movements net t m) refl (from_run net (k + 1) ts (fired net t m))
  where
    next : Outcome
    next = run_from net (k + 1) ts (fired net t m)

    go : (o : Option Refusal) → mode_refusal Movements net t m ≡ o → From net (k + 1) ts (fired net t m) next
        → From net k (t ∷ ts) m (go_on (mode_refusal Movements net t m) k m next)
    go none e f =
        rw e
        (record {
          steps = suc f.steps;
          counted = omega (arith, f.counted);
          leads = moves e f.leads;
          ends = ⊎_elim (λ g. inl (g.0, ap suc g.1)) (λ g. inr (g.0, omega (arith, g.1), g.2, g.3)) f.ends;
        })
    go (some r) e f = rw e (record { steps = 0; counted = omega arith; leads = stays; ends = inr (r, omega arith, refl, e) })

runs_as : (net : PNet) (ts : List Mode) (m : List ℕ) → From net 0 ts m (run net ts m) → RunIs net ts m
runs_as net ts m f =
    let is : (run net ts m).accepted ≡ f.steps = f.counted ∙ omega arith in
    record {
      part = rw is (⊎_elim (λ g. omega (arith, g.1)) (λ g. omega (arith, g.1)) f.ends);
      leads = rw is f.leads;
      whole =
          ⊎_elim {C = ((run net ts m).refusal ≡ none) ↔ ((run net ts m).accepted ≡ length ts)} (λ g. (λ _. is ∙ g.1, λ _. g.0))
          (λ g. (λ e. let z : ◌≡◌ {A = ℕ} 0 1 = cc g.2 in absurd (omega arith), λ e. absurd (omega (arith, g.1))))
          f.ends;
      refused = λ l. rw is (⊎_elim (λ g. absurd (omega (arith, g.1))) (λ g. g.2 ∙ sym g.3) f.ends);
    }

pub runs : Runs
runs net ts m = runs_as net ts m (from_run net 0 ts m)

leads-length : {net : PNet} {ts : List Mode} {m m' : List ℕ} → Leads net ts m m' → length m ≡ pairs net → length m' ≡ pairs net
leads-length stays e = e
leads-length {net} (moves {t = t} {m = m} a l) e = leads-length l (fired-length net t m)

outcome : ℕ → List ℕ → Outcome
outcome k m = record { accepted = k; refusal = none; marking = m }

-- the outcome of a list that leads from m to m'
leads-run : {net : PNet} {ts : List Mode} {m m' : List ℕ} → Leads net ts m m' → (k : ℕ) → run_from net k ts m ≡ outcome (k + length ts) m'
unfolding run_from outcome
leads-run (stays {m = m}) k = ap (λ k. outcome k m) (omega arith)
leads-run (moves {ts = ts} {m' = m'} e l) k = rw e (leads-run l (k + 1) ∙ ap (λ k. outcome k m') (omega arith))

-- a list that runs whole leads to the marking that its run leaves, and one that leads somewhere runs whole and ends there
pub run-leads : (net : PNet) (ts : List Mode) (m : List ℕ) → (run net ts m).refusal ≡ none → Leads net ts m (run net ts m).marking
run-leads net ts m e = let r = runs net ts m in rw (r.whole.0 e, take-length) at r.leads

pub leads-whole : {net : PNet} {ts : List Mode} {m m' : List ℕ} → Leads net ts m m' → ((run net ts m).refusal ≡ none) × ((run net ts m).marking ≡ m')
unfolding outcome
leads-whole l = (ap (λ o. o.refusal) (leads-run l 0), ap (λ o. o.marking) (leads-run l 0))

-- the mode of each movement that a run accepts is there
leads-there : {net : PNet} {ts : List Mode} {m m' : List ℕ} → Leads net ts m m' → (k : ℕ) → k < length ts → (get_or ts k (mode_no 0)).0 < modes net
leads-there stays k h = absurd (not-suc-le-zero h)
leads-there {net} (moves {t = t} {m = m} e l) zero h = accepted-there Movements net t m e
leads-there (moves e l) (suc k) h = leads-there l k (le_of_suc-le-suc h)

pub accepted-modes : (net : PNet) (ts : List Mode) (m : List ℕ) (k : ℕ) → k < (run net ts m).accepted → (get_or ts k (mode_no 0)).0 < modes net
accepted-modes net ts m k h =
    let is = runs net ts m in
    let few : length (take (run net ts m).accepted ts) ≡ (run net ts m).accepted = length-take-le _ ts is.part in
    rw (get_or-take (run net ts m).accepted ts k (mode_no 0) h) at (leads-there is.leads k (rw few h))

module _ (net : PNet) (ts : List Mode) (claim : List ℕ) (each : length net.start ≡ pairs net) where
  abbrev last : List ℕ
  last = (run net ts net.start).marking

  certificate-leads : certificate_refusal net ts claim ≡ none → Leads net ts net.start claim
  unfolding certificate_refusal ends_at elsewhere
  certificate-leads e =
      let r = runs net ts net.start in
      let then = right-none _ _ e in
      let all : (run net ts net.start).accepted ≡ length ts = r.whole.0 (left-none _ _ then) in
      let whole : Leads net ts net.start last = rw (all, take-length) at r.leads in
      let counts : length claim ≡ pairs net = eqb-true (length claim) (pairs net) (not-false _ (only_if_none _ _ (left-none _ _ e))) in
      let same : last ≡ claim =
      ext_get_or 0 last claim (leads-length whole each ∙ sym counts)
      (λ p h.
      eqb-true (count last p) (count claim p)
      (not-false _ (only_if_none _ _ (first-each (pairs net) _ (right-none _ _ then) p (rw (← leads-length whole each) h)))))
      in
      rw same at whole

  leads-certificate : Leads net ts net.start claim → certificate_refusal net ts claim ≡ none
  unfolding certificate_refusal ends_at elsewhere outcome
  leads-certificate l =
      none_then (rw (eq-eqb (length claim) (pairs net) (leads-length l each)))
      (rw (leads-run l 0) (none_then refl (first-all (pairs net) _ (λ p h. rw (eq-eqb (count claim p) (count claim p) refl)))))

pub certificates : Certificates
certificates net ts claim each = (certificate-leads net ts claim each, leads-certificate net ts claim each)
