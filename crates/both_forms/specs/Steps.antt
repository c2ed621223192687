-- Steps (document 02, P1): "a list of 1 to 64 modes, repeats allowed", entered as one. The definitions, then what is promised of them.
use Rattle.std.specs.Prelude.{ℕ, suc, ◌+◌, ◌≤◌, ◌<◌, ◌≡◌, false, ◌||◌, List, [], ◌∷◌, map, ◌↔◌, eqb, ltb, length, get_or, replicate}
use Rattle.std.proofs.Math.Option.{Option, none, some}
use Rattle.model.specs.declared.CapacityRule.TheVariants.{Strong, Weak}
use Rattle.model.specs.declared.Mode.{Mode}
use Rattle.model.specs.declared.Thing.TheVariants.{Movements, Argument}
use Rattle.model.specs.declared.Why.TheVariants.{Lacking, Inhibited}
use Rattle.model.specs.declared.Fault.TheVariants.{CountOutside}
use Rattle.model.specs.declared.Refusal.{Refusal}
use Rattle.model.specs.Refusals.{wrong}
use Rattle.model.specs.First.{◌▸◌, first, only_if}
use Rattle.model.specs.Numbers.{fin, ∞, ◌≤∞◌, least_of, limit}
use Rattle.model.specs.Rows.{Entry, no_arc, Row, Counts}
use Rattle.model.specs.Billington.{Follows}
use Rattle.model.specs.Nets.{PNet, total, pairs, modes, mode_no, K, count, arc_no, row}
use Rattle.model.specs.Firing.{stopped, row_refusal, absent, room_for, rooms, mode_refusal, fired_row, fired}
use Rattle.model.specs.Markings.{Marking}
use Rattle.movement.specs.Runs.{run}
use Rattle.second_form.specs.Dead.{is_dead}
use Rattle.second_form.specs.Complement.{complement, complement_refusal, Corresponds}
use Rattle.second_form.specs.DemandThree.{Complementable}
use Rattle.both_forms.specs.Edges.{edge_net}

-- two members at one pair: Pre and Post summed, the least I
abbrev pub beside : Entry → Entry → Entry
beside a b = record { pre = a.pre + b.pre; post = a.post + b.post; inhibitor = least_of a.inhibitor b.inhibitor }

-- what a step has at each pair; a member without an arc there counts 0, 0 and unbounded
unfoldable pub together : PNet → List Mode → Row
together net [] p = no_arc
together net (t ∷ ts) p = beside (row net t p) (together net ts p)

-- "4 for an empty or too long step"
abbrev pub step_outside : List Mode → Option Refusal
step_outside ts = only_if (eqb (length ts) 0 || ltb 64 (length ts)) (wrong Argument (CountOutside 0))

-- "then 6" for any member, "11, 12, 13, 14 over the sums"
unfoldable pub step_refusal : PNet → List Mode → List ℕ → Option Refusal
step_refusal net ts m =
    step_outside ts
    ▸ first (length ts) (λ i. absent Argument (modes net) (get_or ts i (mode_no 0)))
    ▸ row_refusal Argument (pairs net) (rooms net (together net ts)) (together net ts) (count m)

unfoldable pub fired_together : PNet → List Mode → List ℕ → List ℕ
fired_together net ts m = fired_row (pairs net) (together net ts) m

-- 1. "It is enabled when, at every pair, summed Pre ≤ M, M + summed Post ≤ K, and M ≤ the least I of its members": accepted, where it has 1 to 64 modes, each of
-- them there, and no new count is above 1,000,000. It gives M - Pre + Post of the sums. "P1's steps take the rule with summed Pre and Post": by the weak rule
-- M + summed Post ≤ K + summed Pre.
pub record StepEnables (net : PNet) (ts : List Mode) (M : Counts) : Type 0 where
  pub enough : (p : ℕ) → p < pairs net → total (map (λ t. (row net t p).pre) ts) ≤ M p
  pub room : (p : ℕ) → p < pairs net → M p + total (map (λ t. (row net t p).post) ts) ≤∞ room_for net.rule (K net p) (total (map (λ t. (row net t p).pre) ts))
  pub uninhibited : (p : ℕ) → p < pairs net → (i : ℕ) → i < length ts → M p ≤∞ (row net (get_or ts i (mode_no 0)) p).inhibitor

abbrev pub StepRule : Type 0
StepRule = (net : PNet) (ts : List Mode) (m : List ℕ)
    → (step_refusal net ts m ≡ none)
    ↔ ((1 ≤ length ts) × (length ts ≤ 64) × ((i : ℕ) → i < length ts → (get_or ts i (mode_no 0)).0 < modes net) × StepEnables net ts (count m)
    × ((p : ℕ) → p < pairs net → count (fired_together net ts m) p ≤ limit))

abbrev pub StepAfter : Type 0
StepAfter = (net : PNet) (ts : List Mode) (m : List ℕ) → step_refusal net ts m ≡ none
    → Follows (pairs net) (together net ts) (count m) (count (fired_together net ts m)) × (length (fired_together net ts m) ≡ pairs net)

-- 2. A step of one mode is the mode: the refusal, its position and amount included, and the marking after.
abbrev pub StepOfOne : Type 0
StepOfOne = (net : PNet) (t : Mode) (m : List ℕ)
    → (step_refusal net (t ∷ []) m ≡ mode_refusal Argument net t m) × (fired_together net (t ∷ []) m ≡ fired net t m)

-- 3. "at markings of the two nets that correspond as in demand 3, .. a step accepted by a complement is accepted by the net"; the markings after correspond again
abbrev pub StepsBack : Type 0
StepsBack = (net : PNet) → Complementable net → (ts : List Mode) (m m' : List ℕ) → Corresponds net m m' → step_refusal (complement net) ts m' ≡ none
    → (step_refusal net ts m ≡ none) × Corresponds net (fired_together net ts m) (fired_together (complement net) ts m')

-- "the converse for nets with no finite inhibitor"; "its two statements are kept for rule 0 only", and this one must be: see `WeakSteps`
abbrev pub StepsForth : Type 0
StepsForth = (net : PNet) → net.rule ≡ Strong → Complementable net → ((k : ℕ) → k < length net.arcs → (arc_no net.arcs k).entry.inhibitor ≡ ∞)
    → (ts : List Mode) (m m' : List ℕ) → Corresponds net m m' → step_refusal net ts m ≡ none → step_refusal (complement net) ts m' ≡ none

-- No member of a step accepted at a marking is locally dead; by document 01's rule at no counts at all.
abbrev pub StepMembers : Type 0
StepMembers = (net : PNet) (ts : List Mode) (m : List ℕ) → (net.rule ≡ Weak → Marking net m) → step_refusal net ts m ≡ none
    → (i : ℕ) → i < length ts → is_dead net (get_or ts i (mode_no 0)) ≡ false

-- 4. "It is false in general": n + 1 times the one mode of a net passes at the count m, and in the complement, where c stands beside m, only n times does.
abbrev pub times : ℕ → List Mode
times n = replicate n (mode_no 0)

pub record OnlyFewer (net : PNet) (m c n : ℕ) : Type 0 where
  pub accepted : complement_refusal (λ k. 0) net ≡ none
  pub corresponds : Corresponds net (m ∷ []) (m ∷ c ∷ [])
  pub in_net : step_refusal net (times (suc n)) (m ∷ []) ≡ none
  pub fewer : step_refusal (complement net) (times n) (m ∷ c ∷ []) ≡ none
  pub refused : step_refusal (complement net) (times (suc n)) (m ∷ c ∷ []) ≡ some (stopped Argument Lacking 1 1)

pub record StepExamples : Type 0 where
  -- source document 000, section 6.3: "K 5, count 3, I 4, Pre 1, where three at once pass in the net and only two in the complement"
  pub section63 : OnlyFewer (edge_net 5 (fin 4) 1 0) 3 2 2
  -- K 1, count 0, I 0, Pre 0
  pub smallest : OnlyFewer (edge_net 1 (fin 0) 0 0) 0 1 1
  -- K 2, count 0, I 0, Post 1: two pass at once, and in no order
  pub at_once_alone : (step_refusal (edge_net 2 (fin 0) 0 1) (times 2) (0 ∷ []) ≡ none)
      × ((run (edge_net 2 (fin 0) 0 1) (times 2) (0 ∷ [])).refusal ≡ some (stopped Movements Inhibited 0 1))
  -- K 3, count 1, Pre 1, Post 1: two pass one after the other, and not at once
  pub in_turn_alone : ((run (edge_net 3 ∞ 1 1) (times 2) (1 ∷ [])).refusal ≡ none)
      × (step_refusal (edge_net 3 ∞ 1 1) (times 2) (1 ∷ []) ≡ some (stopped Argument Lacking 0 1))
