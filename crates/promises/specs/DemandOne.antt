-- Demand 1: "A refused call changes no lent buffer, except that a refused list of movements leaves the marking after those accepted before it."
-- A field for each call that is lent a slice or a record to write, for every outcome that its contract allows: what it answers, and what it leaves there.
use Rattle.run.specs.declared.salvage.Report.{Report}
use Rattle.model.specs.declared.Refusal.{Refusal}
use Rattle.std.specs.Prelude.{ℕ, ◌≡◌, List, ◌≢◌, take, Result, None, Option as Perhaps}
use Rattle.model.specs.declared.Pair.{Pair}
use Rattle.model.specs.declared.Mode.{Mode}
use Rattle.model.specs.Refusals.{Answer}
use Rattle.model.specs.Refusals.{number}
use Rattle.movement.specs.Promises.{Leads}
use Rattle.sheets.specs.Decoded.{net_of, movements_of}
use Rattle.sheets.specs.Emitted.{told}
use Rattle.fire.specs.Allowed.{BeginAllows, FireAllows}
use Rattle.run.specs.declared.Ran.{Ran}
use Rattle.run.specs.Allowed.{RunAllows}
use Rattle.fire.specs.step.Allowed.{FireStepAllows}
use Rattle.ships.specs.declared.Fleet.{Fleet}
use Rattle.statement.specs.fleet.Allowed.{AddShipAllows}
use Rattle.complement.specs.Allowed.{ComplementAllows}
use Rattle.convert.specs.Allowed.{ToVersion1Allows, ToVersion2Allows}
use Rattle.convert.specs.strip.Allowed.{StripAllows}
use Rattle.export.specs.Allowed.{ExportPnmlAllows}
use Rattle.import.specs.Allowed.{ImportPnmlAllows}
use Rattle.run.specs.salvage.Salvaged as salvaging
use Rattle.run.specs.salvage.Allowed.{SalvageAllows}
use Rattle.text.specs.Allowed.{PutBytesAllows}
use Rattle.statement.specs.Allowed.{StatementAllows}
use Rattle.answers.specs.declared.Answered.{Answered}
use Rattle.answers.specs.declared.Counted.{Counted}
use Rattle.answers.specs.declared.Reported.{Reported}
use Rattle.answers.specs.declared.Tallied.{Tallied}
use Rattle.abi.specs.Allowed as for_c

-- refused: any number but 0
abbrev pub Refused : Answer → Type 0
Refused answer = number answer ≢ 0

pub record DemandOne : Type 0 where
  pub begin : (net marking : List ℕ) (o : Answer × List ℕ) → BeginAllows net marking o → Refused o.0 → o.1 ≡ marking
  pub fire : (net marking : List ℕ) (t : Mode) (o : Answer × List ℕ) → FireAllows net marking t o → Refused o.0 → o.1 ≡ marking
  pub fire_step : (net marking modes : List ℕ) (o : Answer × List ℕ) → FireStepAllows net marking modes o → Refused o.0 → o.1 ≡ marking
  -- of a ship the lent record
  pub add_ship : (found : Fleet) (net weights movements : List ℕ) (o : Answer × Fleet) → AddShipAllows found net weights movements o → Refused o.0 → o.1 ≡ found
  pub complement : (net out : List ℕ) (o : Result ℕ Refusal × List ℕ) → ComplementAllows net out o → (told o.0).carried.number ≢ 0 → o.1 ≡ out
  pub to_version2 : (net out : List ℕ) (o : Result ℕ Refusal × List ℕ) → ToVersion2Allows net out o → (told o.0).carried.number ≢ 0 → o.1 ≡ out
  pub to_version1 : (net out : List ℕ) (o : Result ℕ Refusal × List ℕ) → ToVersion1Allows net out o → (told o.0).carried.number ≢ 0 → o.1 ≡ out
  pub strip : (net : List ℕ) (p : Pair) (out : List ℕ) (o : Result ℕ Refusal × List ℕ) → StripAllows net p out o → (told o.0).carried.number ≢ 0 → o.1 ≡ out
  pub export_pnml : (net out : List ℕ) (o : Result ℕ Refusal × List ℕ) → ExportPnmlAllows net out o → (told o.0).carried.number ≢ 0 → o.1 ≡ out
  pub import_pnml : (text out : List ℕ) (o : Result ℕ Refusal × List ℕ) → ImportPnmlAllows text out o → (told o.0).carried.number ≢ 0 → o.1 ≡ out
  pub salvage : (net damaged out : List ℕ) (o : Result Report Refusal × List ℕ) → SalvageAllows net damaged out o → (salvaging.told o.0).carried.number ≢ 0 → o.1 ≡ out
  -- the exception; with none accepted the marking is as it was
  pub run : (net movements marking : List ℕ) (o : Ran × List ℕ) → RunAllows net movements marking o → Refused o.0.answer
      → Leads (net_of net) (take o.0.accepted (movements_of movements)) marking o.1
  pub run_none : (net movements marking : List ℕ) (o : Ran × List ℕ) → RunAllows net movements marking o → o.0.accepted ≡ 0 → o.1 ≡ marking
  -- put_decimal and put_signed put the bytes of a number, by the same contract
  pub put_bytes : (out : List ℕ) (at : ℕ) (bytes : List ℕ) (o : Perhaps ℕ × List ℕ) → PutBytesAllows out at bytes o → o.0 ≡ None → o.1 ≡ out
  pub statement : (input out : List ℕ) (o : Result ℕ Refusal × List ℕ) → StatementAllows input out o → (told o.0).carried.number ≢ 0 → o.1 ≡ out

-- the same of the calls for C: refused where the number told is not 0
pub record DemandOneForC : Type 0 where
  pub begin : (net marking : List ℕ) (o : Answered × List ℕ) → for_c.BeginAllows net marking o → o.0.number ≢ 0 → o.1 ≡ marking
  pub fire : (net marking : List ℕ) (t : Mode) (o : Answered × List ℕ) → for_c.FireAllows net marking t o → o.0.number ≢ 0 → o.1 ≡ marking
  pub fire_step : (net marking modes : List ℕ) (o : Answered × List ℕ) → for_c.FireStepAllows net marking modes o → o.0.number ≢ 0 → o.1 ≡ marking
  pub fleet_add : (found : Fleet) (net weights movements : List ℕ) (o : Answered × Fleet) → for_c.FleetAddAllows found net weights movements o
      → o.0.number ≢ 0 → o.1 ≡ found
  pub complement : (net out : List ℕ) (o : Counted × List ℕ) → for_c.ComplementAllows net out o → o.0.answer.number ≢ 0 → o.1 ≡ out
  pub to_version2 : (net out : List ℕ) (o : Counted × List ℕ) → for_c.ToVersion2Allows net out o → o.0.answer.number ≢ 0 → o.1 ≡ out
  pub to_version1 : (net out : List ℕ) (o : Counted × List ℕ) → for_c.ToVersion1Allows net out o → o.0.answer.number ≢ 0 → o.1 ≡ out
  pub strip : (net : List ℕ) (p : Pair) (out : List ℕ) (o : Counted × List ℕ) → for_c.StripAllows net p out o → o.0.answer.number ≢ 0 → o.1 ≡ out
  pub export_pnml : (net out : List ℕ) (o : Counted × List ℕ) → for_c.ExportPnmlAllows net out o → o.0.answer.number ≢ 0 → o.1 ≡ out
  pub import_pnml : (text out : List ℕ) (o : Counted × List ℕ) → for_c.ImportPnmlAllows text out o → o.0.answer.number ≢ 0 → o.1 ≡ out
  pub salvage : (net damaged out : List ℕ) (o : Reported × List ℕ) → for_c.SalvageAllows net damaged out o → o.0.answer.number ≢ 0 → o.1 ≡ out
  pub statement : (input out : List ℕ) (o : Counted × List ℕ) → for_c.StatementAllows input out o → o.0.answer.number ≢ 0 → o.1 ≡ out
  pub run : (net movements marking : List ℕ) (o : Tallied × List ℕ) → for_c.RunAllows net movements marking o → o.0.answer.number ≢ 0
      → Leads (net_of net) (take o.0.accepted (movements_of movements)) marking o.1
  pub run_none : (net movements marking : List ℕ) (o : Tallied × List ℕ) → for_c.RunAllows net movements marking o → o.0.accepted ≡ 0 → o.1 ≡ marking
