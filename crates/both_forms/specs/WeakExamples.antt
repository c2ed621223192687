-- What the weak capacity rule changes (document 02, P10), at a pair of capacity 5 beside document 01's rule.
use Rattle.std.specs.Prelude.{ℕ, ◌≡◌, true, false, List, [], ◌∷◌}
use Rattle.std.proofs.Math.Option.{Option, none, some}
use Rattle.model.specs.declared.CapacityRule.{CapacityRule}
use Rattle.model.specs.declared.CapacityRule.TheVariants.{Strong, Weak}
use Rattle.model.specs.declared.Mode.{Mode}
use Rattle.model.specs.declared.Thing.TheVariants.{Argument}
use Rattle.model.specs.declared.Why.TheVariants.{Lacking, OverCapacity}
use Rattle.model.specs.declared.Fault.TheVariants.{MarkingAboveCapacity}
use Rattle.model.specs.declared.Refusal.{Refusal}
use Rattle.model.specs.Refusals.{wrong}
use Rattle.model.specs.Numbers.{fin, ∞}
use Rattle.model.specs.Nets.{NetArc, PNet, pair_no, mode_no}
use Rattle.model.specs.Markings.{marking_refusal}
use Rattle.model.specs.Firing.{stopped, mode_refusal}
use Rattle.second_form.specs.Dead.{is_dead}
use Rattle.second_form.specs.Complement.{complement, complement_refusal, Corresponds}
use Rattle.both_forms.specs.Steps.{step_refusal}
use Rattle.both_forms.specs.WorkedExamples.{arc}

-- a rack of 5, full at the start, and the arcs of two modes there
abbrev pub rack : CapacityRule → List NetArc → PNet
rack rule arcs = record { rule = rule; colours = 1 ∷ []; modes_of = 2 ∷ []; capacity = fin 5 ∷ []; start = 5 ∷ []; arcs = arcs }

-- mode 0 of this Pre and Post, asked at a count
abbrev pub entered : CapacityRule → ℕ → ℕ → ℕ → Option Refusal
entered rule pre post m = mode_refusal Argument (rack rule (arc 0 0 pre post ∞ ∷ [])) (mode_no 0) (m ∷ [])

pub record WeakExamples : Type 0 where
  -- "Some yards swap an item in a full rack, which our rule forbids."
  pub swap : (entered Strong 1 1 5 ≡ some (stopped Argument OverCapacity 0 1)) × (entered Weak 1 1 5 ≡ none)
  -- 12 by the rule in force: 5 and 3 are 3 over K, and 2 over K and Pre
  pub over : (entered Strong 1 3 5 ≡ some (stopped Argument OverCapacity 0 3)) × (entered Weak 1 3 5 ≡ some (stopped Argument OverCapacity 0 2))
  -- Pre 3, Post 3: no count passes the one rule, and 3, 4 and 5 pass the other
  pub dead : (is_dead (rack Strong (arc 0 0 3 3 ∞ ∷ [])) (mode_no 0) ≡ true) × (is_dead (rack Weak (arc 0 0 3 3 ∞ ∷ [])) (mode_no 0) ≡ false)
  -- Pre 6: dead, and it would pass at a count above K, which no call takes
  pub within_capacity : (is_dead (rack Weak (arc 0 0 6 0 ∞ ∷ [])) (mode_no 0) ≡ true) × (entered Weak 6 0 6 ≡ none)
      × (marking_refusal (rack Weak []) (6 ∷ []) ≡ some (wrong Argument (MarkingAboveCapacity (pair_no 0))))
  -- Pre 1, Post 3, I 4: of the complement Pre, "the larger of" 3 or 2 and 1, and of what is given back
  pub beside : ((complement (rack Strong (arc 0 0 1 3 (fin 4) ∷ []))).arcs ≡ arc 0 0 1 3 ∞ ∷ arc 0 1 3 1 ∞ ∷ [])
      × ((complement (rack Weak (arc 0 0 1 3 (fin 4) ∷ []))).arcs ≡ arc 0 0 1 3 ∞ ∷ arc 0 1 2 0 ∞ ∷ [])

-- `StepsForth` is false by the weak rule: one takes 1 from the full rack and one puts 1 there. At once they pass in the net; in its complement the second lacks
-- the room that the first leaves. No inhibitor is there.
abbrev pub exchange : CapacityRule → PNet
exchange rule = rack rule (arc 0 0 1 0 ∞ ∷ arc 1 0 0 1 ∞ ∷ [])

abbrev pub both : List Mode
both = mode_no 0 ∷ mode_no 1 ∷ []

pub record WeakSteps : Type 0 where
  pub accepted : complement_refusal (λ k. 0) (exchange Weak) ≡ none
  pub corresponds : Corresponds (exchange Weak) (5 ∷ []) (5 ∷ 0 ∷ [])
  pub in_net : step_refusal (exchange Weak) both (5 ∷ []) ≡ none
  pub refused : step_refusal (complement (exchange Weak)) both (5 ∷ 0 ∷ []) ≡ some (stopped Argument Lacking 1 1)
  -- by document 01's rule the net refuses too
  pub strongly : step_refusal (exchange Strong) both (5 ∷ []) ≡ some (stopped Argument OverCapacity 0 1)
