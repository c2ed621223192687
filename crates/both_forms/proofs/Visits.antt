-- The arcs that a run visits: the movements tried, and the bound.
use Prim.Native.Nat.{ℕ, zero, suc, ◌*◌, ◌≤◌, ◌<◌}
use mathlib.Core.Path.{◌≡◌, refl}
use mathlib.Core.Bool.{Bool, true, false}
use mathlib.Core.List.{List, [], ◌∷◌, ◌++◌, map}
use mathlib.Core.Logic.{⊎_elim}
use lib.Dec.{ltb}
use lib.ListN.{length, take, get_or}
use lib.Seq.{take_all, take-suc}
use native.Mathlib.Nat.{suc-mul, zero-mul, eq-or-lt_of_le, le_of_suc-le-suc, not-suc-le-zero}
use native.Mathlib.Omega.{arith}
use borrow.Author.Tests.{ltb-true}
use Rattle.model.specs.declared.Mode.{Mode}
use Rattle.model.specs.First.{◌▸◌, first}
use Rattle.model.specs.Lists.{table}
use Rattle.model.specs.Firing.{rule_refusal, row_refusal, mode_refusal, fired}
use Rattle.model.specs.Nets.{PNet, total, modes, mode_no, entry_at}
use Rattle.movement.specs.Runs.{run_from, run}
use Rattle.both_forms.specs.Visits.{arcs_among, arcs_of_mode, up_to_refused, tried, visited, largest, most_arcs, MovementsTried, VisitsBounded, VisitsExamples}
use Rattle.movement.proofs.Runs.{runs}

one_more_lem : (ts : List Mode) (k n : ℕ) → n ≡ suc k → k < length ts → take n ts ≡ take k ts ++ (get_or ts k (mode_no 0) ∷ [])
one_more_lem ts k n e h = rw e (take-suc ts k (mode_no 0) h)

pub movements-tried : MovementsTried
movements-tried net ts m =
    let is = runs net ts m in
    record {
      whole = λ e. take_all (up_to_refused net ts m) ts (omega (arith, is.whole.0 e));
      refused =
          λ stopped.
          let short : ¬ ((run net ts m).accepted ≡ length ts) = λ all. stopped (is.whole.1 all) in
          one_more_lem ts (run net ts m).accepted (up_to_refused net ts m) (omega arith) (omega (arith, is.part, short));
    }

at_most : (n : ℕ) (f : ℕ → ℕ) (i : ℕ) → i < n → f i ≤ largest n f
unfolding largest
at_most zero f i h = absurd (not-suc-le-zero h)
at_most (suc n) f i h =
    ⊎_elim (λ (e : i ≡ n). rw e (omega arith)) (λ (l : i < n). omega (arith, at_most n f i l)) (eq-or-lt_of_le (le_of_suc-le-suc h))

missing : (net : PNet) (t : Mode) → ltb t.0 (modes net) ≡ false → arcs_of_mode net t ≡ 0
unfolding arcs_of_mode
missing net t e = rw e

-- a mode that is there, or 0
mode-at-most : (net : PNet) (t : Mode) → arcs_of_mode net t ≤ most_arcs net
mode-at-most net t = go (ltb t.0 (modes net)) refl
  where
    go : (b : Bool) → ltb t.0 (modes net) ≡ b → arcs_of_mode net t ≤ most_arcs net
    go true e = at_most (modes net) (λ t. arcs_of_mode net (mode_no t)) t.0 (ltb-true _ _ e)
    go false e = rw (missing net t e) (omega arith)

pub each-at-most : {A : Type 0} (f : A → ℕ) (most : ℕ) → ((x : A) → f x ≤ most) → (xs : List A) → total (map f xs) ≤ length xs * most
each-at-most f most h [] = omega (arith, zero-mul most)
each-at-most f most h (x ∷ xs) = omega (arith, h x, each-at-most f most h xs, suc-mul (length xs) most)

pub visits-bounded : VisitsBounded
unfolding visited
visits-bounded net ts m = each-at-most (arcs_of_mode net) (most_arcs net) (mode-at-most net) (tried net ts m)

pub visits_examples_lem : VisitsExamples
unfolding visited largest arcs_of_mode arcs_among run_from mode_refusal row_refusal rule_refusal fired ◌▸◌ first entry_at table
visits_examples_lem =
    record {
      own = refl;
      accepted = refl;
      refused = refl;
      without_arcs = refl;
      missing = refl;
      missing_after = refl;
      no_movements = refl;
      most = refl;
    }
