-- Document 01, "Refusal numbers": the number, thing and position that each answer carries; and the amount of document 02, P3.
use Rattle.std.specs.Prelude.{ℕ, Bool, cond, ◌||◌, eqb, ltb}
use Rattle.std.proofs.Math.Option.{Option, none, some}
use Rattle.model.specs.declared.Thing.{Thing}
use Rattle.model.specs.declared.Thing.TheVariants.{Net, Weights, Movements, Argument}
use Rattle.model.specs.declared.Why.TheVariants.{Lacking, OverCapacity, Inhibited, OverLimit}
use Rattle.model.specs.declared.Fault.{Fault}
use Rattle.model.specs.declared.Fault.TheVariants.{CutShort, WrongVersion, WrongLength, CountOutside, NumberOutside, MarkingOutside, NotThereAt, NotThere, NotRising, Blank, StartAboveCapacity, MarkingAboveCapacity, NoRoom, Stopped, InhibitedUnbounded, NotOneEach, EndsElsewhere, NotUnbounded, NotAnExport, Unbalanced, EqualFigures, RuleLost, FigurePast, RecordOutside}
use Rattle.model.specs.declared.Refusal.{Refusal}
use Rattle.std.specs.Prelude.{Result, Ok, Err}

-- what is wrong, and in which thing
abbrev pub wrong : Thing → Fault → Refusal
wrong thing fault = record { thing = thing; fault = fault }

-- accepted, or refused and why
abbrev pub Answer : Type 0
Answer = Result Unit Refusal

-- the answer to a call: its first refusal, if there is one
abbrev pub answer : Option Refusal → Answer
answer none = Ok tt
answer (some r) = Err r

pub record Line : Type 0 where
  pub number : ℕ
  pub position : ℕ
  pub amount : ℕ

-- "Every answer now carries this amount, 0 for all other numbers", those that do not say by how much
abbrev pub says_by : ℕ → ℕ → ℕ → Line
says_by number position amount = record { number = number; position = position; amount = amount }

abbrev pub says : ℕ → ℕ → Line
says number position = says_by number position 0

-- "The position of a field, an arc or a byte is the offset of its first byte ..; the position of a pair or a mode is its number", and 0 where none is named
abbrev pub line : Fault → Line
line CutShort = says 1 0
line (WrongVersion at) = says 2 at
line (WrongLength at) = says 3 at
line (CountOutside at) = says 4 at
line (NumberOutside at) = says 5 at
line (MarkingOutside p) = says 5 p.0
line (NotThereAt at) = says 6 at
line NotThere = says 6 0
line (NotRising at) = says 7 at
line (Blank at) = says 8 at
line (StartAboveCapacity at) = says 9 at
line (MarkingAboveCapacity p) = says 9 p.0
line NoRoom = says 10 0
line (Stopped Lacking p by) = says_by 11 p.0 by
line (Stopped OverCapacity p by) = says_by 12 p.0 by
line (Stopped Inhibited p by) = says_by 13 p.0 by
line (Stopped OverLimit p by) = says_by 14 p.0 by
line (InhibitedUnbounded at) = says 15 at
line (NotOneEach at) = says 17 at
line (EndsElsewhere p) = says 18 p.0
line (NotUnbounded at) = says 19 at
line (NotAnExport at) = says 20 at
line (Unbalanced t) = says 21 t.0
line EqualFigures = says 22 0
line RuleLost = says 23 0
line FigurePast = says 24 0
line RecordOutside = says 25 0

abbrev pub number : Answer → ℕ
number (Ok tt) = 0
number (Err r) = (line r.fault).number

abbrev pub position : Answer → ℕ
position (Ok tt) = 0
position (Err r) = (line r.fault).position

abbrev pub amount : Answer → ℕ
amount (Ok tt) = 0
amount (Err r) = (line r.fault).amount

abbrev pub thing_number : Thing → ℕ
thing_number Net = 0
thing_number Weights = 1
thing_number Movements = 2
thing_number Argument = 3

-- "0 net, also for numbers 0, 10, 15, 16 and any above 18"
abbrev pub always_net : ℕ → Bool
always_net n = eqb n 0 || eqb n 10 || eqb n 15 || eqb n 16 || ltb 18 n

abbrev pub thing : Answer → ℕ
thing (Ok tt) = 0
thing (Err r) = cond (always_net (line r.fault).number) 0 (thing_number r.thing)

-- "Every answer carries the number, which thing was at fault (0 net, also for numbers 0, 10, 15, 16 and any above 18; 1 weights; 2 movements, also one that a
-- run or certificate refuses; 3 marking, claim or any other argument) and a position, 0 where none is named." Document 02, P3: and an amount.
pub record Carried : Type 0 where
  pub number : ℕ
  pub thing : ℕ
  pub position : ℕ
  pub amount : ℕ

abbrev pub carries_by : ℕ → ℕ → ℕ → ℕ → Carried
carries_by n about at by = record { number = n; thing = about; position = at; amount = by }

abbrev pub carries : ℕ → ℕ → ℕ → Carried
carries n about at = carries_by n about at 0

abbrev pub carried : Answer → Carried
carried a = carries_by (number a) (thing a) (position a) (amount a)
