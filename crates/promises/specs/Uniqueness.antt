-- "Uniqueness is proved: any two outcomes allowed are equal." An outcome is the answer, with its value where it has one, and the final content of every lent slice.
use Rattle.std.specs.Prelude.{ℕ, ◌≡◌, List, ℤ}
use Rattle.model.specs.declared.Pair.{Pair}
use Rattle.model.specs.declared.Mode.{Mode}
use Rattle.sheets.specs.lists.Allowed.{ReadWeightsAllows, ReadMovementsAllows}
use Rattle.sheets.specs.Allowed.{AfterNetAllows, AfterWeightsAllows, AfterMovementsAllows, WholeNetAllows, WholeWeightsAllows, WholeMovementsAllows}
use Rattle.sheets.specs.nets.Allowed.{ReadNetAllows}
use Rattle.fire.specs.Allowed.{BeginAllows, TestAllows, FireAllows}
use Rattle.run.specs.Allowed.{RunAllows, CertifyAllows}
use Rattle.fire.specs.step.Allowed.{TestStepAllows, FireStepAllows}
use Rattle.statement.specs.weigh.Allowed.{FigureAllows, ChangeAllows}
use Rattle.ships.specs.declared.Fleet.{Fleet}
use Rattle.statement.specs.fleet.Allowed.{AddShipAllows}
use Rattle.statement.specs.exclude.Allowed.{ExcludeAllows}
use Rattle.opened.specs.dead.Allowed.{IsDeadAllows, FirstDeadAllows}
use Rattle.opened.specs.size.Allowed.{SizeAllows}
use Rattle.complement.specs.Allowed.{ComplementAllows}
use Rattle.convert.specs.Allowed.{ToVersion1Allows, ToVersion2Allows}
use Rattle.convert.specs.strip.Allowed.{StripAllows}
use Rattle.export.specs.Allowed.{ExportPnmlAllows}
use Rattle.import.specs.Allowed.{ImportPnmlAllows}
use Rattle.complement.specs.audit.Allowed.{AuditAllows}
use Rattle.run.specs.salvage.Allowed.{SalvageAllows}
use Rattle.text.specs.Allowed.{PutBytesAllows, PutDecimalAllows, PutSignedAllows}
use Rattle.statement.specs.Allowed.{StatementAllows}
use Rattle.abi.specs.Allowed as c

-- any two outcomes that a contract allows are equal
abbrev pub Unique : {A : Type 0} → (A → Type 0) → Type 0
Unique {A} Allows = (o o' : A) → Allows o → Allows o' → o ≡ o'

-- the calls for C
pub record UniqueForC : Type 0 where
  pub read_net : (s : List ℕ) → Unique (c.ReadNetAllows s)
  pub read_weights : (s : List ℕ) (pairs : ℕ) → Unique (c.ReadWeightsAllows s pairs)
  pub read_movements : (s : List ℕ) → Unique (c.ReadMovementsAllows s)
  pub begin : (net marking : List ℕ) → Unique (c.BeginAllows net marking)
  pub test : (net marking : List ℕ) (t : Mode) → Unique (c.TestAllows net marking t)
  pub fire : (net marking : List ℕ) (t : Mode) → Unique (c.FireAllows net marking t)
  pub test_step : (net marking modes : List ℕ) → Unique (c.TestStepAllows net marking modes)
  pub fire_step : (net marking modes : List ℕ) → Unique (c.FireStepAllows net marking modes)
  pub run : (net movements marking : List ℕ) → Unique (c.RunAllows net movements marking)
  pub certify : (net movements claim : List ℕ) → Unique (c.CertifyAllows net movements claim)
  pub figure : (net weights marking : List ℕ) → Unique (c.FigureAllows net weights marking)
  pub change : (net weights : List ℕ) (t : Mode) → Unique (c.ChangeAllows net weights t)
  pub fleet_add : (found : Fleet) (net weights movements : List ℕ) → Unique (c.FleetAddAllows found net weights movements)
  pub exclude : (net weights claim : List ℕ) → Unique (c.ExcludeAllows net weights claim)
  pub is_dead : (net : List ℕ) (t : Mode) → Unique (c.IsDeadAllows net t)
  pub first_dead : (net : List ℕ) → Unique (c.FirstDeadAllows net)
  pub size : (net : List ℕ) → Unique (c.SizeAllows net)
  pub complement : (net out : List ℕ) → Unique (c.ComplementAllows net out)
  pub to_version2 : (net out : List ℕ) → Unique (c.ToVersion2Allows net out)
  pub to_version1 : (net out : List ℕ) → Unique (c.ToVersion1Allows net out)
  pub strip : (net : List ℕ) (p : Pair) (out : List ℕ) → Unique (c.StripAllows net p out)
  pub export_pnml : (net out : List ℕ) → Unique (c.ExportPnmlAllows net out)
  pub import_pnml : (text out : List ℕ) → Unique (c.ImportPnmlAllows text out)
  pub audit : (net marking beside : List ℕ) → Unique (c.AuditAllows net marking beside)
  pub salvage : (net damaged out : List ℕ) → Unique (c.SalvageAllows net damaged out)
  pub statement : (input out : List ℕ) → Unique (c.StatementAllows input out)

-- a field for each public call, for all that it may be given
pub record Uniqueness : Type 0 where
  pub read_net : (s : List ℕ) → Unique (ReadNetAllows s)
  pub read_weights : (s : List ℕ) (pairs : ℕ) → Unique (ReadWeightsAllows s pairs)
  pub read_movements : (s : List ℕ) → Unique (ReadMovementsAllows s)
  pub after_net : (s : List ℕ) → Unique (AfterNetAllows s)
  pub after_weights : (s : List ℕ) (pairs : ℕ) → Unique (AfterWeightsAllows s pairs)
  pub after_movements : (s : List ℕ) → Unique (AfterMovementsAllows s)
  pub whole_net : (s : List ℕ) → Unique (WholeNetAllows s)
  pub whole_weights : (s : List ℕ) (pairs : ℕ) → Unique (WholeWeightsAllows s pairs)
  pub whole_movements : (s : List ℕ) → Unique (WholeMovementsAllows s)
  pub begin : (net marking : List ℕ) → Unique (BeginAllows net marking)
  pub test : (net marking : List ℕ) (t : Mode) → Unique (TestAllows net marking t)
  pub fire : (net marking : List ℕ) (t : Mode) → Unique (FireAllows net marking t)
  pub test_step : (net marking modes : List ℕ) → Unique (TestStepAllows net marking modes)
  pub fire_step : (net marking modes : List ℕ) → Unique (FireStepAllows net marking modes)
  pub run : (net movements marking : List ℕ) → Unique (RunAllows net movements marking)
  pub certify : (net movements claim : List ℕ) → Unique (CertifyAllows net movements claim)
  pub figure : (net weights marking : List ℕ) → Unique (FigureAllows net weights marking)
  pub change : (net weights : List ℕ) (t : Mode) → Unique (ChangeAllows net weights t)
  pub add_ship : (found : Fleet) (net weights movements : List ℕ) → Unique (AddShipAllows found net weights movements)
  pub exclude : (net weights claim : List ℕ) → Unique (ExcludeAllows net weights claim)
  pub is_dead : (net : List ℕ) (t : Mode) → Unique (IsDeadAllows net t)
  pub first_dead : (net : List ℕ) → Unique (FirstDeadAllows net)
  pub size : (net : List ℕ) → Unique (SizeAllows net)
  pub complement : (net out : List ℕ) → Unique (ComplementAllows net out)
  pub to_version2 : (net out : List ℕ) → Unique (ToVersion2Allows net out)
  pub to_version1 : (net out : List ℕ) → Unique (ToVersion1Allows net out)
  pub strip : (net : List ℕ) (p : Pair) (out : List ℕ) → Unique (StripAllows net p out)
  pub export_pnml : (net out : List ℕ) → Unique (ExportPnmlAllows net out)
  pub import_pnml : (text out : List ℕ) → Unique (ImportPnmlAllows text out)
  pub audit : (net marking beside : List ℕ) → Unique (AuditAllows net marking beside)
  pub salvage : (net damaged out : List ℕ) → Unique (SalvageAllows net damaged out)
  pub put_bytes : (out : List ℕ) (at : ℕ) (bytes : List ℕ) → Unique (PutBytesAllows out at bytes)
  pub put_decimal : (out : List ℕ) (at n : ℕ) → Unique (PutDecimalAllows out at n)
  pub put_signed : (out : List ℕ) (at : ℕ) (z : ℤ) → Unique (PutSignedAllows out at z)
  pub statement : (input out : List ℕ) → Unique (StatementAllows input out)
  pub for_c : UniqueForC
