-- What the calls for C tell of a run and of a reader; of the others: Told.antt of the crate answers.
use Rattle.std.specs.Prelude.{ℕ, ◌-◌, List, length}
use Rattle.model.specs.Refusals.{Answer}
use Rattle.sheets.specs.Whole.{rest}
use Rattle.run.specs.declared.Ran.{Ran}
use Rattle.answers.specs.declared.Counted.{Counted}
use Rattle.answers.specs.declared.Tallied.{Tallied}
use Rattle.answers.specs.Told.{answered}

-- A run "returns how many were accepted", and how many arcs it visited (document 02, P14), of a refused run too.
abbrev pub ran : Ran → Tallied
ran r = record { answer = answered r.answer; accepted = r.accepted; arcs = r.visited }

-- how many bytes the sheet of a reader with this answer takes: those that it does not hand back, so none on a refusal
abbrev pub taken : List ℕ → Answer → Counted
taken s a = record { answer = answered a; value = length s - length (rest a s) }
