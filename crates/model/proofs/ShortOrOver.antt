-- The amount of an answer: 0 but for 11 to 14, and there what is compared is above its bound.
use Prim.Native.Nat.{ℕ, ◌<◌}
use mathlib.Core.Path.{◌≡◌, refl}
use mathlib.Core.Logic.{◌⊎◌, ⊎_elim, ◌≢◌}
use mathlib.Core.Option.{none}
use native.Mathlib.Omega.{arith}
use Rattle.model.specs.declared.Thing.{Thing}
use Rattle.model.specs.declared.Why.{Why}
use Rattle.model.specs.declared.Why.TheVariants.{Lacking, OverCapacity, Inhibited, OverLimit}
use Rattle.model.specs.declared.Fault.{Fault}
use Rattle.model.specs.declared.Fault.TheVariants.{CutShort, WrongVersion, WrongLength, CountOutside, NumberOutside, MarkingOutside, NotThereAt, NotThere, NotRising, Blank, StartAboveCapacity, MarkingAboveCapacity, NoRoom, Stopped, InhibitedUnbounded, NotOneEach, EndsElsewhere, NotUnbounded, NotAnExport, Unbalanced, EqualFigures, RuleLost, FigurePast, RecordOutside}
use Rattle.model.specs.Refusals.{Answer}
use Rattle.std.specs.Prelude.{Ok, Err}
use Rattle.model.specs.Refusals.{answer, line, number, amount}
use Rattle.model.specs.Numbers.{ℕ∞, fin, ∞, Above, above_by}
use Rattle.model.specs.Rows.{Row, Capacities, Counts}
use Rattle.model.specs.Firing.{compared, stopped_by, row_refusal}
use Rattle.model.specs.Promises.{Amounts}
use Rattle.model.proofs.Firing.{No, Low, row0, row11, row12, row13, row14, find-stop}

other-numbers : (f : Fault) → ((line f).number < 11) ⊎ (14 < (line f).number) → (line f).amount ≡ 0
other-numbers CutShort h = refl
other-numbers (WrongVersion at) h = refl
other-numbers (WrongLength at) h = refl
other-numbers (CountOutside at) h = refl
other-numbers (NumberOutside at) h = refl
other-numbers (MarkingOutside p) h = refl
other-numbers (NotThereAt at) h = refl
other-numbers NotThere h = refl
other-numbers (NotRising at) h = refl
other-numbers (Blank at) h = refl
other-numbers (StartAboveCapacity at) h = refl
other-numbers (MarkingAboveCapacity p) h = refl
other-numbers NoRoom h = refl
other-numbers (Stopped Lacking p by) h = ⊎_elim (λ l. omega (arith, l)) (λ l. omega (arith, l)) h
other-numbers (Stopped OverCapacity p by) h = ⊎_elim (λ l. omega (arith, l)) (λ l. omega (arith, l)) h
other-numbers (Stopped Inhibited p by) h = ⊎_elim (λ l. omega (arith, l)) (λ l. omega (arith, l)) h
other-numbers (Stopped OverLimit p by) h = ⊎_elim (λ l. omega (arith, l)) (λ l. omega (arith, l)) h
other-numbers (InhibitedUnbounded at) h = refl
other-numbers (NotOneEach at) h = refl
other-numbers (EndsElsewhere p) h = refl
other-numbers (NotUnbounded at) h = refl
other-numbers (NotAnExport at) h = refl
other-numbers (Unbalanced t) h = refl
other-numbers EqualFigures h = refl
other-numbers RuleLost h = refl
other-numbers FigurePast h = refl
other-numbers RecordOutside h = refl

answers_zero : (a : Answer) → (number a < 11) ⊎ (14 < number a) → amount a ≡ 0
answers_zero (Ok tt) h = refl
answers_zero (Err r) h = other-numbers r.fault h

above-some : (n : ℕ) (b : ℕ∞) → Above n b → 0 < above_by n b
above-some n (fin k) h = omega arith
above-some n ∞ h = absurd h

module _ (about : Thing) (n : ℕ) (k : Capacities) (r : Row) (M : Counts) where
  abbrev At : Why → Type 0
  At why = (p : ℕ) × Low about n k r M why p

  abbrev None : Why → Type 0
  None = No about n k r M

  -- at the pair that is named
  over : (why : Why) (f : At why) → 0 < stopped_by why (r f.0) (k f.0) (M f.0)
  over why f = let c = compared why (r f.0) (k f.0) (M f.0) in above-some c.number c.bound f.1.holds

  refused-by-some : row_refusal about n k r M ≢ none → 0 < amount (answer (row_refusal about n k r M))
  refused-by-some e =
      ⊎_elim (λ (f : At Lacking). rw (row11 about n k r M f.0 f.1) (over Lacking f))
      (λ (a : None Lacking).
      ⊎_elim (λ (f : At OverCapacity). rw (row12 about n k r M f.0 a f.1) (over OverCapacity f))
      (λ (b : None OverCapacity).
      ⊎_elim (λ (f : At Inhibited). rw (row13 about n k r M f.0 a b f.1) (over Inhibited f))
      (λ (c : None Inhibited).
      ⊎_elim (λ (f : At OverLimit). rw (row14 about n k r M f.0 a b c f.1) (over OverLimit f))
      (λ (d : None OverLimit). absurd (e (row0 about n k r M a b c d)))
      (find-stop about n k r M OverLimit))
      (find-stop about n k r M Inhibited))
      (find-stop about n k r M OverCapacity))
      (find-stop about n k r M Lacking)

pub amounts : Amounts
amounts = record { other_numbers = answers_zero; refused = refused-by-some }
