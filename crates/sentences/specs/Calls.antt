-- The public calls, each once: its contract and what it carries; and what C is told of it. A call for C allows what is told of an answer that the library's
-- contract allows, and leaves what that leaves.
use Rattle.model.specs.declared.Refusal.{Refusal}
use Rattle.std.specs.Prelude.{ℕ, ◌<◌, Result}
use Rattle.model.specs.declared.Pair.{Pair}
use Rattle.model.specs.declared.Mode.{Mode}
use Rattle.model.specs.Refusals.{Carried, carries_by, carried}
use Rattle.sheets.specs.lists.Allowed.{ReadWeightsAllows, ReadMovementsAllows}
use Rattle.sheets.specs.nets.Allowed.{ReadNetAllows}
use Rattle.sheets.specs.Emitted as emitting
use Rattle.fire.specs.Allowed.{BeginAllows, TestAllows, FireAllows}
use Rattle.run.specs.Allowed.{RunAllows, CertifyAllows}
use Rattle.fire.specs.step.Allowed.{TestStepAllows, FireStepAllows}
use Rattle.statement.specs.weigh.Calls as figuring
use Rattle.statement.specs.weigh.Allowed.{FigureAllows, ChangeAllows}
use Rattle.sentences.specs.Bytes.{Bytes}
use Rattle.ships.specs.declared.Fleet.{Fleet}
use Rattle.statement.specs.fleet.Allowed.{AddShipAllows}
use Rattle.statement.specs.exclude.Allowed.{ExcludeAllows}
use Rattle.opened.specs.dead.IsDead as one
use Rattle.opened.specs.dead.FirstDead as first
use Rattle.opened.specs.dead.Allowed.{IsDeadAllows, FirstDeadAllows}
use Rattle.opened.specs.size.Sizes as sizes
use Rattle.opened.specs.size.Allowed.{SizeAllows}
use Rattle.complement.specs.Allowed.{ComplementAllows}
use Rattle.convert.specs.Allowed.{ToVersion1Allows, ToVersion2Allows}
use Rattle.convert.specs.strip.Allowed.{StripAllows}
use Rattle.export.specs.Allowed.{ExportPnmlAllows}
use Rattle.import.specs.Allowed.{ImportPnmlAllows}
use Rattle.complement.specs.audit.Audits as audits
use Rattle.complement.specs.audit.Allowed.{AuditAllows}
use Rattle.run.specs.salvage.Salvaged as salvages
use Rattle.run.specs.salvage.Allowed.{SalvageAllows}
use Rattle.statement.specs.Allowed.{StatementAllows}
use Rattle.answers.specs.declared.Answered.{Answered}
use Rattle.answers.specs.Told.{answered, counted, weighed, decided, named, sized, audited, reported}
use Rattle.abi.specs.Told.{ran, taken}
use Rattle.sentences.specs.Call.{Call, Telling, answering, writing, told_by, Modes, Counts, Word, Signed, on₂, on₃, on₄, both, all₃, all₄}

pub data Public : Type 0 where
  read_net read_weights read_movements : Public
  begin test fire test_step fire_step run certify : Public
  figure change fleet_add exclude is_dead first_dead size audit : Public
  complement to_version2 to_version1 strip export_pnml import_pnml salvage statement : Public

abbrev pub emits : Result ℕ Refusal → Carried
emits e = (emitting.told e).carried

abbrev pub AMode : Mode → Type 0
AMode t = t.0 < 65536

abbrev pub APair : Pair → Type 0
APair p = p.0 < 65536

-- a fleet's record, as wide as the machine's
pub record AFleet (f : Fleet) : Type 0 where
  pub ships : Word f.ships
  pub movements : Word f.movements
  pub refused : Word f.by6 × Word f.by11 × Word f.by12 × Word f.by13 × Word f.by14
  pub added : Signed f.added
  pub removed : Signed f.removed

-- the calls of the library
abbrev pub call : Public → Call
call read_net = answering ReadNetAllows carried Bytes
call read_weights = answering (on₂ ReadWeightsAllows) carried (both Bytes Word)
call read_movements = answering ReadMovementsAllows carried Bytes
call begin = writing (on₂ BeginAllows) carried (both Bytes Counts) (λ i. i.1)
call test = answering (on₃ TestAllows) carried (all₃ Bytes Counts AMode)
call fire = writing (on₃ FireAllows) carried (all₃ Bytes Counts AMode) (λ i. i.1)
call test_step = answering (on₃ TestStepAllows) carried (all₃ Bytes Counts Modes)
call fire_step = writing (on₃ FireStepAllows) carried (all₃ Bytes Counts Modes) (λ i. i.1)
call run = writing (on₃ RunAllows) (λ r. carried r.answer) (all₃ Bytes Bytes Counts) (λ i. i.2)
call certify = answering (on₃ CertifyAllows) carried (all₃ Bytes Bytes Counts)
call figure = answering (on₃ FigureAllows) (λ f. (figuring.told f).carried) (all₃ Bytes Bytes Counts)
call change = answering (on₃ ChangeAllows) (λ f. (figuring.told f).carried) (all₃ Bytes Bytes AMode)
call fleet_add = writing (on₄ AddShipAllows) carried (all₄ AFleet Bytes Bytes Bytes) (λ i. i.0)
call exclude = answering (on₃ ExcludeAllows) carried (all₃ Bytes Bytes Counts)
call is_dead = answering (on₂ IsDeadAllows) (λ d. (one.told d).carried) (both Bytes AMode)
call first_dead = answering FirstDeadAllows (λ d. (first.told d).carried) Bytes
call size = answering SizeAllows (λ s. (sizes.told s).carried) Bytes
call complement = writing (on₂ ComplementAllows) emits (both Bytes Bytes) (λ i. i.1)
call to_version2 = writing (on₂ ToVersion2Allows) emits (both Bytes Bytes) (λ i. i.1)
call to_version1 = writing (on₂ ToVersion1Allows) emits (both Bytes Bytes) (λ i. i.1)
call strip = writing (on₃ StripAllows) emits (all₃ Bytes APair Bytes) (λ i. i.2)
call export_pnml = writing (on₂ ExportPnmlAllows) emits (both Bytes Bytes) (λ i. i.1)
call import_pnml = writing (on₂ ImportPnmlAllows) emits (both Bytes Bytes) (λ i. i.1)
call audit = answering (on₃ AuditAllows) (λ f. (audits.told f).carried) (all₃ Bytes Counts Counts)
call salvage = writing (on₃ SalvageAllows) (λ s. (salvages.told s).carried) (all₃ Bytes Bytes Bytes) (λ i. i.2)
call statement = writing (on₂ StatementAllows) emits (both Bytes Bytes) (λ i. i.1)

-- what an answer carries, as C is told it
abbrev pub carried_to_c : Answered → Carried
carried_to_c a = carries_by a.number a.thing a.position a.amount

module _ {c : Call} where
  abbrev pub by : {D : Type 0} → (c.Answers → D) → (D → Answered) → Telling c
  by {D} tell answer = record { Told = D; tell = λ g a. tell a; carried = λ d. carried_to_c (answer d) }

-- what C is told of each; of a reader, how many bytes its sheet takes too
abbrev pub told : (c : Public) → Telling (call c)
told read_net = record { Told = _; tell = taken; carried = λ d. carried_to_c d.answer }
told read_weights = record { Told = _; tell = λ i. taken i.0; carried = λ d. carried_to_c d.answer }
told read_movements = record { Told = _; tell = taken; carried = λ d. carried_to_c d.answer }
told begin = by answered (λ d. d)
told test = by answered (λ d. d)
told fire = by answered (λ d. d)
told test_step = by answered (λ d. d)
told fire_step = by answered (λ d. d)
told run = by ran (λ d. d.answer)
told certify = by answered (λ d. d)
told figure = by (λ f. weighed (figuring.told f)) (λ d. d.answer)
told change = by (λ f. weighed (figuring.told f)) (λ d. d.answer)
told fleet_add = by answered (λ d. d)
told exclude = by answered (λ d. d)
told is_dead = by (λ d. decided (one.told d)) (λ d. d.answer)
told first_dead = by (λ d. named (first.told d)) (λ d. d.answer)
told size = by (λ s. sized (sizes.told s)) (λ d. d.answer)
told complement = by (λ e. counted (emitting.told e)) (λ d. d.answer)
told to_version2 = by (λ e. counted (emitting.told e)) (λ d. d.answer)
told to_version1 = by (λ e. counted (emitting.told e)) (λ d. d.answer)
told strip = by (λ e. counted (emitting.told e)) (λ d. d.answer)
told export_pnml = by (λ e. counted (emitting.told e)) (λ d. d.answer)
told import_pnml = by (λ e. counted (emitting.told e)) (λ d. d.answer)
told audit = by (λ f. audited (audits.told f)) (λ d. d.answer)
told salvage = by (λ s. reported (salvages.told s)) (λ d. d.answer)
told statement = by (λ e. counted (emitting.told e)) (λ d. d.answer)

-- the calls for C, whose source states this contract: of all given, what is told and what is left in what was lent
abbrev pub for_c : Public → Call
for_c c = told_by (call c) (told c)

abbrev pub ForC : (c : Public) → (call c).Given → (told c).Told → (call c).Lent → Type 0
ForC c = (for_c c).Allows
