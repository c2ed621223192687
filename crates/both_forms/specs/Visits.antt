-- How many arcs a run visits (document 02, P14): "each tried movement counts its mode's arcs once, a refused one included, and a missing mode counts 0".
use Rattle.std.specs.Prelude.{ℕ, zero, suc, ◌+◌, ◌*◌, ◌≤◌, max, ◌≡◌, cond, List, [], ◌∷◌, ◌++◌, map, ◌≢◌, eqb, ltb, length, take, get_or}
use Rattle.std.proofs.Math.Option.{none}
use Rattle.model.specs.declared.CapacityRule.TheVariants.{Strong}
use Rattle.model.specs.declared.Mode.{Mode}
use Rattle.model.specs.Numbers.{fin, ∞}
use Rattle.model.specs.Nets.{NetArc, PNet, total, modes, mode_no}
use Rattle.movement.specs.Runs.{run}
use Rattle.both_forms.specs.WorkedExamples.{arc, own_example}

-- how many of the arcs are a mode's
unfoldable pub arcs_among : List NetArc → Mode → ℕ
arcs_among [] t = 0
arcs_among (a ∷ arcs) t = cond (eqb a.mode.0 t.0) 1 0 + arcs_among arcs t

-- what a mode counts: "a missing mode counts 0"
unfoldable pub arcs_of_mode : PNet → Mode → ℕ
arcs_of_mode net t = cond (ltb t.0 (modes net)) (arcs_among net.arcs t) 0

-- the movements tried: those accepted and the one after them, which is refused, where there is one
abbrev pub up_to_refused : PNet → List Mode → List ℕ → ℕ
up_to_refused net ts m = suc (run net ts m).accepted

abbrev pub tried : PNet → List Mode → List ℕ → List Mode
tried net ts m = take (up_to_refused net ts m) ts

unfoldable pub visited : PNet → List Mode → List ℕ → ℕ
visited net ts m = total (map (arcs_of_mode net) (tried net ts m))

-- "the largest arc count of a mode"
unfoldable pub largest : ℕ → (ℕ → ℕ) → ℕ
largest zero f = 0
largest (suc n) f = max (largest n f) (f n)

abbrev pub most_arcs : PNet → ℕ
most_arcs net = largest (modes net) (λ t. arcs_of_mode net (mode_no t))

-- 1. A run that is not refused has tried the whole list, and one that is refused the movements accepted and the one refused.
pub record TriedAre (net : PNet) (ts : List Mode) (m : List ℕ) : Type 0 where
  pub whole : (run net ts m).refusal ≡ none → tried net ts m ≡ ts
  pub refused : (run net ts m).refusal ≢ none
      → tried net ts m ≡ take (run net ts m).accepted ts ++ (get_or ts (run net ts m).accepted (mode_no 0) ∷ [])

abbrev pub MovementsTried : Type 0
MovementsTried = (net : PNet) (ts : List Mode) (m : List ℕ) → TriedAre net ts m

-- 2. "The number .. is at most the movements tried times the largest arc count of a mode."
abbrev pub VisitsBounded : Type 0
VisitsBounded = (net : PNet) (ts : List Mode) (m : List ℕ) → visited net ts m ≤ length (tried net ts m) * most_arcs net

-- 3. Examples. Mode 0 has three arcs and takes 1 of pair 0, mode 1 has none; there is no mode 2.
abbrev pub three_arcs : PNet
three_arcs =
    record {
      rule = Strong;
      colours = 3 ∷ [];
      modes_of = 2 ∷ [];
      capacity = ∞ ∷ ∞ ∷ ∞ ∷ [];
      start = 1 ∷ 0 ∷ 0 ∷ [];
      arcs = arc 0 0 1 0 ∞ ∷ arc 0 1 0 1 ∞ ∷ arc 0 2 0 0 (fin 4) ∷ [];
    }

abbrev visits : List ℕ → ℕ
visits ts = visited three_arcs (map mode_no ts) (1 ∷ 0 ∷ 0 ∷ [])

pub record VisitsExamples : Type 0 where
  -- document 01's own example: mode 0 of two arcs four times, the fourth refused
  pub own : visited own_example.net (map mode_no (0 ∷ 0 ∷ 0 ∷ 0 ∷ [])) (3 ∷ 0 ∷ []) ≡ 8
  pub accepted : visits (1 ∷ 0 ∷ []) ≡ 3
  -- the second movement of mode 0 lacks a token at pair 0, the first of its arcs, and is counted whole; the third is not tried
  pub refused : visits (0 ∷ 0 ∷ 0 ∷ []) ≡ 6
  pub without_arcs : visits (1 ∷ 1 ∷ 1 ∷ []) ≡ 0
  -- mode 2 is missing, and what follows it is not tried
  pub missing : visits (1 ∷ 2 ∷ 0 ∷ []) ≡ 0
  pub missing_after : visits (0 ∷ 2 ∷ 0 ∷ []) ≡ 3
  pub no_movements : visits [] ≡ 0
  pub most : most_arcs three_arcs ≡ 3
