-- What a call tells C: document 01's number, thing and position of its answer, document 02's amount, and the value, 0 where a refused call has none.
use Rattle.std.specs.Prelude.{ℕ, Bool, true, false, ℤ, pos, Ok}
use Rattle.std.proofs.Math.Option.{Option, none, some}
use Rattle.model.specs.Refusals.{Answer}
use Rattle.model.specs.Refusals.{Carried, carried}
use Rattle.model.specs.Replies.{Reply}
use Rattle.model.specs.Nets.{pair_no, mode_no}
use Rattle.second_form.specs.Dead.{DeadMode}
use Rattle.both_forms.specs.Audit.{Finding}
use Rattle.run.specs.declared.salvage.Report.{Report}
use Rattle.opened.specs.declared.size.NetSize.{NetSize}
use Rattle.answers.specs.declared.Answered.{Answered}
use Rattle.answers.specs.declared.Counted.{Counted}
use Rattle.answers.specs.declared.Weighed.{Weighed}
use Rattle.answers.specs.declared.Decided.{Decided}
use Rattle.answers.specs.declared.Named.{Named}
use Rattle.answers.specs.declared.Sized.{Sized}
use Rattle.answers.specs.declared.Audited.{Audited}
use Rattle.answers.specs.declared.Reported.{Reported}

-- what an answer carries
abbrev pub telling : Carried → Answered
telling c = record { number = c.number; thing = c.thing; position = c.position; amount = c.amount }

abbrev pub answered : Answer → Answered
answered a = telling (carried a)

abbrev pub value_or : {A : Type 0} → A → Option A → A
value_or nothing none = nothing
value_or nothing (some a) = a

abbrev pub counted : Reply ℕ → Counted
counted r = record { answer = telling r.carried; value = value_or 0 r.value }

abbrev pub weighed : Reply ℤ → Weighed
weighed r = record { answer = telling r.carried; value = value_or (pos 0) r.value }

abbrev pub decided : Reply Bool → Decided
decided r = record { answer = telling r.carried; value = value_or false r.value }

-- a mode and its pair, where one was found
abbrev pub naming : Answered → Option DeadMode → Named
naming a none = record { answer = a; found = false; mode = mode_no 0; pair = pair_no 0 }
naming a (some d) = record { answer = a; found = true; mode = d.mode; pair = d.pair }

abbrev pub named : Reply (Option DeadMode) → Named
named r = naming (telling r.carried) (value_or none r.value)

-- how many pairs, modes and arcs, each 0 where a refused call has none
abbrev pub sizing : Answered → NetSize → Sized
sizing a size = record { answer = a; pairs = size.pairs; modes = size.modes; arcs = size.arcs }

abbrev pub sized : Reply NetSize → Sized
sized r = sizing (telling r.carried) (value_or (record { pairs = 0; modes = 0; arcs = 0 }) r.value)

-- a pair and its excess, where one was found
abbrev pub finding : Answered → Option Finding → Audited
finding a none = record { answer = a; found = false; pair = pair_no 0; excess = pos 0 }
finding a (some f) = record { answer = a; found = true; pair = f.pair; excess = f.excess }

abbrev pub audited : Reply (Option Finding) → Audited
audited r = finding (telling r.carried) (value_or none r.value)

-- what a salvage reports, all 0 where a refused call has nothing to report
abbrev pub reporting : Answered → Report → Reported
reporting a r = record { answer = a; length = r.length; kept = r.kept; dropped = r.dropped; stop = answered r.stop }

abbrev pub reported : Reply Report → Reported
reported r = reporting (telling r.carried) (value_or (record { length = 0; kept = 0; dropped = 0; stop = Ok tt }) r.value)
