-- Number 0 is accepted, and no refusal has it; what a call was told by that answers a value, or leaves what it found.
use Prim.Native.Nat.{ℕ}
use mathlib.Core.Path.{◌≡◌, refl, sym, ◌∙◌, ap}
use mathlib.Core.Logic.{◌≢◌}
use mathlib.Core.Option.{Option, none, some, none-ne-some}
use native.Mathlib.Omega.{arith}
use Rattle.model.specs.declared.Why.TheVariants.{Lacking, OverCapacity, Inhibited, OverLimit}
use Rattle.model.specs.declared.Fault.{Fault}
use Rattle.model.specs.declared.Fault.TheVariants.{CutShort, WrongVersion, WrongLength, CountOutside, NumberOutside, MarkingOutside, NotThereAt, NotThere, NotRising, Blank, StartAboveCapacity, MarkingAboveCapacity, NoRoom, Stopped, InhibitedUnbounded, NotOneEach, EndsElsewhere, NotUnbounded, NotAnExport, Unbalanced, EqualFigures, RuleLost, FigurePast, RecordOutside}
use Rattle.model.specs.declared.Refusal.{Refusal}
use Rattle.model.specs.Refusals.{answer, line, number}
use Rattle.model.specs.Replies.{Reply, yields, refuses}

refused-number : (fault : Fault) → ¬ ((line fault).number ≡ 0)
refused-number CutShort e = omega arith
refused-number (WrongVersion at) e = omega arith
refused-number (WrongLength at) e = omega arith
refused-number (CountOutside at) e = omega arith
refused-number (NumberOutside at) e = omega arith
refused-number (MarkingOutside p) e = omega arith
refused-number (NotThereAt at) e = omega arith
refused-number NotThere e = omega arith
refused-number (NotRising at) e = omega arith
refused-number (Blank at) e = omega arith
refused-number (StartAboveCapacity at) e = omega arith
refused-number (MarkingAboveCapacity p) e = omega arith
refused-number NoRoom e = omega arith
refused-number (Stopped Lacking p by) e = omega arith
refused-number (Stopped OverCapacity p by) e = omega arith
refused-number (Stopped Inhibited p by) e = omega arith
refused-number (Stopped OverLimit p by) e = omega arith
refused-number (InhibitedUnbounded at) e = omega arith
refused-number (NotOneEach at) e = omega arith
refused-number (EndsElsewhere p) e = omega arith
refused-number (NotUnbounded at) e = omega arith
refused-number (NotAnExport at) e = omega arith
refused-number (Unbalanced t) e = omega arith
refused-number EqualFigures e = omega arith
refused-number RuleLost e = omega arith
refused-number FigurePast e = omega arith
refused-number RecordOutside e = omega arith

pub number-none : (o : Option Refusal) → number (answer o) ≡ 0 → o ≡ none
number-none none e = refl
number-none (some r) e = absurd (refused-number r.fault e)

-- a call that answers the value l, or its refusal
module _ {A : Type 0} (tell : Option Refusal → Reply A) (l : A) (here : tell none ≡ yields l) (there : (r : Refusal) → tell (some r) ≡ refuses r) where
  pub yielded : (o : Option Refusal) {n : A} → tell o ≡ yields n → (o ≡ none) × (n ≡ l)
  yielded none {n} e = let v : some l ≡ some n = ap (λ r. r.value) (sym here ∙ e) in (refl, cc)
  yielded (some r) {n} e = let v : none ≡ some n = ap (λ r. r.value) (sym (there r) ∙ e) in absurd (none-ne-some n v)

  pub unrefused : (o : Option Refusal) → (tell o).carried.number ≡ 0 → o ≡ none
  unrefused none e = refl
  unrefused (some r) e = number-none (some r) (ap (λ r. r.carried.number) (sym (there r)) ∙ e)

-- a call that has number 0 where nothing is refused, and else leaves what it found
pub left_alone : {A : Type 0} {found : A} (number : Option Refusal → ℕ) (left : Option Refusal → A) → number none ≡ 0 → ((r : Refusal) → left (some r) ≡ found)
    → (o : Option Refusal) → number o ≢ 0 → left o ≡ found
left_alone number left e kept none h = absurd (h e)
left_alone number left e kept (some r) h = kept r
