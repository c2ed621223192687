-- The arcs that a run visits: each movement adds its mode's.
use Prim.Native.Nat.{ℕ, zero, suc, ◌+◌, ◌≤◌, ◌<◌}
use mathlib.Core.Path.{◌≡◌, sym, ◌∙◌, ap}
use mathlib.Core.List.{List, [], ◌∷◌, map}
use lib.ListN.{length, take, get_or}
use lib.Seq.{take_all}
use native.Mathlib.Nat.{le_of_suc-le-suc, not-suc-le-zero}
use native.Mathlib.Numerals.{add-one}
use native.Mathlib.Omega.{arith}
use Rattle.model.specs.declared.Mode.{Mode}
use Rattle.model.specs.Nets.{PNet, total, mode_no}
use Rattle.movement.specs.Runs.{run}
use Rattle.both_forms.specs.Visits.{arcs_of_mode, visited}
use Rattle.opened.specs.declared.starts.Segment.{Segment}
use Rattle.numbers.specs.Movement.{Tries}

-- the arcs of the first k movements
abbrev pub visited_to : PNet → List Mode → ℕ → ℕ
visited_to net ts k = total (map (arcs_of_mode net) (take k ts))

pub one_more_lem : (f : Mode → ℕ) (ts : List Mode) (k : ℕ) (d : Mode) → k < length ts → total (map f (take (suc k) ts)) ≡ total (map f (take k ts)) + f (get_or ts k d)
one_more_lem f [] k d h = absurd (not-suc-le-zero h)
one_more_lem f (t ∷ ts) zero d h = omega arith
one_more_lem f (t ∷ ts) (suc k) d h = omega (arith, one_more_lem f ts k d (le_of_suc-le-suc h))

module _ (net : PNet) (ts : List Mode) where
  -- one movement more, whatever its answer
  pub visits-more : (k : ℕ) {t : Mode} {arcs : Segment} {v : ℕ} → k < length ts → get_or ts k (mode_no 0) ≡ t → Tries net t arcs → v ≡ visited_to net ts k
      → v + arcs.count ≡ visited_to net ts (k + 1)
  visits-more k {t} {arcs} {v} h q tries e =
      rw (add-one, one_more_lem (arcs_of_mode net) ts k (mode_no 0) h, q, ← e, ← tries.visits)

  -- a run that stops at the k-th movement, and one that comes to the end of its list
  pub visits-stop : (m : List ℕ) (k : ℕ) → k ≡ (run net ts m).accepted → visited_to net ts (k + 1) ≡ visited net ts m
  unfolding visited
  visits-stop m k e = rw (e, add-one)

  pub visits-end : (m : List ℕ) (k : ℕ) → length ts ≤ k → k ≡ (run net ts m).accepted → visited_to net ts k ≡ visited net ts m
  visits-end m k h e =
      ap (λ (ts : List Mode). total (map (arcs_of_mode net) ts)) (take_all k ts h ∙ sym (take_all (k + 1) ts (omega arith))) ∙ visits-stop m k e
