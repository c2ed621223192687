-- A run neither invents its accepted count nor stops writing after its first movement.
use Prim.Native.Nat.{ℕ, zero, suc, ◌+◌, ◌≤◌, ◌<◌}
use mathlib.Core.Path.{◌≡◌, refl, sym, ◌∙◌, ap, subst}
use mathlib.Core.List.{List, [], ◌∷◌}
use mathlib.Core.Logic.{◌↔◌, ◌≢◌}
use mathlib.Core.Option.{Option, none, some}
use lib.ListN.{length, take, drop, get_or}
use native.Mathlib.Omega.{arith}
use Rattle.model.specs.declared.Mode.{Mode}
use Rattle.model.specs.declared.Thing.TheVariants.{Movements}
use Rattle.model.specs.declared.Refusal.{Refusal}
use Rattle.model.specs.Nets.{PNet, pairs, mode_no, count}
use Rattle.model.specs.Firing.{mode_refusal, fired}
use Rattle.movement.specs.Runs.{Outcome, go_on, run_from, run}
use Rattle.movement.specs.Promises.{Leads, stays, moves}
use Rattle.movement.proofs.Markings.{marking-after}
use Rattle.movement.proofs.Runs.{runs}
use Rattle.sheets.specs.Decoded.{net_of, movements_of}
use Rattle.run.specs.declared.Ran.{Ran}
use Rattle.run.specs.Calls.{before_run, run_of}
use Rattle.run.specs.Allowed.{RunAllows}
use Rattle.run.proofs.Promises.{runs_leave_lem}
use Rattle.sentences.specs.Frauds.{taken, given, AcceptsFirst, RunFrauds}
use Rattle.sentences.proofs.Outcomes.{begins-none}

-- what movements take and give in all, at a pair
leads-change : {net : PNet} {ts : List Mode} {m m' : List ℕ} → Leads net ts m m' → (p : ℕ) → p < pairs net
    → count m' p + taken net ts p ≡ count m p + given net ts p
unfolding taken given
leads-change stays p h = refl
leads-change {net} (moves {t = t} {m = m} e l) p h =
    omega (arith, leads-change l p h, (marking-after Movements net t m e).0 p h)

not_first : {net : PNet} {m m' : List ℕ} (ts : List Mode) (n p : ℕ) → Leads net (take n ts) m m' → p < pairs net
    → taken net (drop 1 (take n ts)) p ≢ given net (drop 1 (take n ts)) p → m' ≢ fired net (get_or ts 0 (mode_no 0)) m
unfolding taken given
not_first [] zero p l h apart = absurd (apart refl)
not_first [] (suc n) p l h apart = absurd (apart refl)
not_first (t ∷ ts) zero p l h apart = absurd (apart refl)
not_first (t ∷ ts) (suc n) p (moves e l) h apart = λ same. apart (omega (arith, leads-change l p h, ap (λ m. count m p) same))

-- a run accepts such a first part of the list, and there is one alone
accepts-first : (net : PNet) (ts : List Mode) (m : List ℕ) → AcceptsFirst net ts m (run net ts m).accepted
accepts-first net ts m =
    let r = runs net ts m in
    record { part = r.part; after = (run net ts m).marking; leads = r.leads; next = λ l e. omega (arith, r.whole.0 (r.refused l ∙ e)) }

stops_at_lem : (net : PNet) (t : Mode) (m : List ℕ) (j : ℕ) (next : Outcome) → mode_refusal Movements net t m ≢ none
    → (go_on (mode_refusal Movements net t m) j m next).accepted ≡ j + 0
stops_at_lem net t m j next h = go (mode_refusal Movements net t m) refl
  where
    go : (o : Option Refusal) → mode_refusal Movements net t m ≡ o → (go_on (mode_refusal Movements net t m) j m next).accepted ≡ j + 0
    go none e = absurd (h e)
    go (some r) e = rw e (omega arith)

counts-once : {net : PNet} {m after : List ℕ} (ts : List Mode) (k j : ℕ) → k ≤ length ts → Leads net (take k ts) m after
    → (k < length ts → mode_refusal Movements net (get_or ts k (mode_no 0)) after ≢ none) → (run_from net j ts m).accepted ≡ j + k
unfolding run_from
counts-once [] zero j h l next = omega arith
counts-once [] (suc k) j h l next = absurd (omega arith)
counts-once {net} (t ∷ ts) zero j h (stays {m = m}) next = stops_at_lem net t m j (run_from net (j + 1) ts (fired net t m)) (next (omega arith))
counts-once {net} {m} (t ∷ ts) (suc k) j h (moves e l) next = rw e (counts-once {m = fired net t m} ts k (j + 1) (omega arith) l (λ b. next (omega arith)) ∙ omega arith)

module _ (net movements marking : List ℕ) (e : before_run net movements marking ≡ none) where
  pub begun-run : run_of net movements marking ≡ run (net_of net) (movements_of movements) marking
  unfolding run_of
  begun-run = rw e

  one-count : (o : Ran × List ℕ) → RunAllows net movements marking o → (k : ℕ)
      → (o.0.accepted ≡ k) ↔ AcceptsFirst (net_of net) (movements_of movements) marking k
  one-count o a k =
      let ts = movements_of movements in
      let counted : o.0.accepted ≡ (run (net_of net) ts marking).accepted = ap (λ r. r.accepted) a.0 ∙ ap (λ r. r.accepted) begun-run in (
        λ q. subst (AcceptsFirst (net_of net) ts marking) (sym counted ∙ q) (accepts-first (net_of net) ts marking),
        λ f. counted ∙ counts-once ts k 0 f.part f.leads f.next ∙ omega arith,
      )

pub run-frauds : RunFrauds
run-frauds =
    record {
      invented = λ net movements marking o a b. one-count net movements marking (begins-none net movements marking b) o a;
      first_only = λ net movements marking o a p h apart same.
          let k = ap (λ r. r.accepted) a.0 in
          not_first (movements_of movements) (run_of net movements marking).accepted p (runs_leave_lem net movements marking).leads h (rw k at apart) (sym a.1 ∙ same);
    }
