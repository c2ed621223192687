-- A call that writes a sheet or a text: what it answers, and what it leaves in the output slice.
use Rattle.std.specs.Prelude.{ℕ, List, ◌++◌, ltb, length, drop, Result, Ok, Err}
use Rattle.std.proofs.Math.Option.{Option, none, some}
use Rattle.model.specs.declared.Thing.TheVariants.{Net}
use Rattle.model.specs.declared.Fault.TheVariants.{NoRoom}
use Rattle.model.specs.declared.Refusal.{Refusal}
use Rattle.model.specs.First.{only_if}
use Rattle.model.specs.Refusals.{wrong}
use Rattle.model.specs.Replies.{Reply, yields, refuses}

-- 10: "or the output slice is shorter than it"
abbrev pub too_short : List ℕ → ℕ → Option Refusal
too_short bytes room = only_if (ltb room (length bytes)) (wrong Net NoRoom)

-- the first refusal, if there is one, or the length written
abbrev pub emitted : Option Refusal → ℕ → Result ℕ Refusal
emitted none length = Ok length
emitted (some r) length = Err r

-- the refusal, if it is one
abbrev pub refusal_of : Result ℕ Refusal → Option Refusal
refusal_of (Ok length) = none
refusal_of (Err r) = some r

-- the number, thing, position and value of each answer
abbrev pub told : Result ℕ Refusal → Reply ℕ
told (Ok length) = yields length
told (Err r) = refuses r

-- "The call returns the length written and touches no byte after it." "Other refused calls write nothing."
abbrev pub output : Option Refusal → List ℕ → List ℕ → List ℕ
output none bytes found = bytes ++ drop (length bytes) found
output (some r) bytes found = found
