-- What is promised of one mode, of lists of modes and of their figures.
use Rattle.std.specs.Prelude.{ℕ, ◌≤◌, ◌<◌, ◌≡◌, List, [], ◌∷◌, ◌↔◌, length, take, get_or, ℤ, ◌+ℤ◌}
use Rattle.std.proofs.Math.Option.{none}
use Rattle.model.specs.declared.Mode.{Mode}
use Rattle.model.specs.declared.Thing.{Thing}
use Rattle.model.specs.declared.Thing.TheVariants.{Movements}
use Rattle.model.specs.First.{NoneBelow}
use Rattle.model.specs.Numbers.{limit}
use Rattle.model.specs.Billington.{Follows}
use Rattle.model.specs.Allows.{Allows}
use Rattle.model.specs.Nets.{PNet, pairs, modes, mode_no, K, count, arc_no, row}
use Rattle.model.specs.Markings.{Marking, marking_refusal}
use Rattle.model.specs.Firing.{mode_refusal, fired}
use Rattle.movement.specs.Runs.{run, certificate_refusal}
use Rattle.movement.specs.Figures.{figure, changes}

-- A net's mode is accepted exactly when its rule allows it, where it is there and no new count is above 1,000,000. An accepted movement gives M - Pre + Post at
-- every pair.
abbrev pub ModeRule : Type 0
ModeRule = (about : Thing) (net : PNet) (t : Mode) (m : List ℕ)
    → (mode_refusal about net t m ≡ none)
    ↔ ((t.0 < modes net) × Allows net.rule (pairs net) (K net) (row net t) (count m) × ((p : ℕ) → p < pairs net → count (fired net t m) p ≤ limit))

abbrev pub MarkingAfter : Type 0
MarkingAfter = (about : Thing) (net : PNet) (t : Mode) (m : List ℕ) → mode_refusal about net t m ≡ none
    → Follows (pairs net) (row net t) (count m) (count (fired net t m)) × (length (fired net t m) ≡ pairs net)

-- "A mode without arcs is always enabled and changes nothing."
abbrev pub WithoutArcs : Type 0
WithoutArcs = (about : Thing) (net : PNet) (t : Mode) (m : List ℕ) → t.0 < modes net → NoneBelow (length net.arcs) (λ k. (arc_no net.arcs k).mode.0 ≡ t.0)
    → Marking net m → (mode_refusal about net t m ≡ none) × (fired net t m ≡ m)

-- 1. A marking is accepted exactly when it has one count for each pair, each in range and within K; an accepted movement leaves such a marking.
abbrev pub MarkingTest : Type 0
MarkingTest = (net : PNet) (m : List ℕ) → (marking_refusal net m ≡ none) ↔ Marking net m

abbrev pub MarkingKept : Type 0
MarkingKept = (about : Thing) (net : PNet) (t : Mode) (m : List ℕ) → Marking net m → mode_refusal about net t m ≡ none → Marking net (fired net t m)

-- 2. Runs. `Leads net ts m m'`: the movements ts, each accepted where it stands, lead from m to m'.
pub data Leads (net : PNet) : List Mode → List ℕ → List ℕ → Type 0 where
  stays : {m : List ℕ} → Leads net [] m m
  moves : {t : Mode} {ts : List Mode} {m m' : List ℕ} → mode_refusal Movements net t m ≡ none → Leads net ts (fired net t m) m' → Leads net (t ∷ ts) m m'

-- a run accepts a first part of the list, which leads to the marking that it leaves; it is the whole list, or the next movement is the one refused
pub record RunIs (net : PNet) (ts : List Mode) (m : List ℕ) : Type 0 where
  pub part : (run net ts m).accepted ≤ length ts
  pub leads : Leads net (take (run net ts m).accepted ts) m (run net ts m).marking
  pub whole : (run net ts m).refusal ≡ none ↔ (run net ts m).accepted ≡ length ts
  pub refused : (run net ts m).accepted < length ts
      → (run net ts m).refusal ≡ mode_refusal Movements net (get_or ts (run net ts m).accepted (mode_no 0)) (run net ts m).marking

abbrev pub Runs : Type 0
Runs = (net : PNet) (ts : List Mode) (m : List ℕ) → RunIs net ts m

-- "accepted exactly when the list runs whole from the first marking and ends at the claim"
abbrev pub Certificates : Type 0
Certificates = (net : PNet) (ts : List Mode) (claim : List ℕ) → length net.start ≡ pairs net
    → (certificate_refusal net ts claim ≡ none) ↔ Leads net ts net.start claim

-- 3. "The figure after a list is the starting figure plus the weight change of each accepted movement."
abbrev pub FigureAfter : Type 0
FigureAfter = (net : PNet) (weights : List ℤ) (ts : List Mode) (m : List ℕ)
    → figure net weights (run net ts m).marking ≡ figure net weights m +ℤ changes net weights (take (run net ts m).accepted ts)
