-- "Refusing all, or one constant answer, breaks the exact refusal table": each contract accepts something, refuses something, and excludes every answer somewhere.
use Rattle.std.specs.Prelude.{ℕ, ◌≡◌, List, ◌≢◌, ℤ, length, Some, None, Option as Perhaps}
use Rattle.model.specs.declared.Pair.{Pair}
use Rattle.model.specs.declared.Mode.{Mode}
use Rattle.model.specs.Refusals.{number}
use Rattle.sheets.specs.lists.Allowed.{ReadWeightsAllows, ReadMovementsAllows}
use Rattle.sheets.specs.Allowed.{AfterNetAllows, AfterWeightsAllows, AfterMovementsAllows, WholeNetAllows, WholeWeightsAllows, WholeMovementsAllows}
use Rattle.sheets.specs.nets.Allowed.{ReadNetAllows}
use Rattle.sheets.specs.Emitted as emitting
use Rattle.fire.specs.Allowed.{BeginAllows, TestAllows, FireAllows}
use Rattle.run.specs.Allowed.{RunAllows, CertifyAllows}
use Rattle.fire.specs.step.Allowed.{TestStepAllows, FireStepAllows}
use Rattle.statement.specs.weigh.Calls as weigh
use Rattle.statement.specs.weigh.Allowed.{FigureAllows, ChangeAllows}
use Rattle.ships.specs.declared.Fleet.{Fleet}
use Rattle.statement.specs.fleet.Allowed.{AddShipAllows}
use Rattle.statement.specs.exclude.Allowed.{ExcludeAllows}
use Rattle.opened.specs.dead.IsDead as one
use Rattle.opened.specs.dead.FirstDead as first
use Rattle.opened.specs.dead.Allowed.{IsDeadAllows, FirstDeadAllows}
use Rattle.opened.specs.size.Sizes as sizing
use Rattle.opened.specs.size.Allowed.{SizeAllows}
use Rattle.complement.specs.Allowed.{ComplementAllows}
use Rattle.convert.specs.Allowed.{ToVersion1Allows, ToVersion2Allows}
use Rattle.convert.specs.strip.Allowed.{StripAllows}
use Rattle.export.specs.Allowed.{ExportPnmlAllows}
use Rattle.import.specs.Allowed.{ImportPnmlAllows}
use Rattle.complement.specs.audit.Audits as auditing
use Rattle.complement.specs.audit.Allowed.{AuditAllows}
use Rattle.run.specs.salvage.Salvaged as salvaging
use Rattle.run.specs.salvage.Allowed.{SalvageAllows}
use Rattle.text.specs.Allowed.{PutBytesAllows, PutDecimalAllows, PutSignedAllows}
use Rattle.statement.specs.Allowed.{StatementAllows}

-- what a call is given, the outcomes that its contract then allows, and the number of an outcome's answer
module _ {I O : Type 0} (Allows : I → O → Type 0) (number : O → ℕ) where
  abbrev pub Only : ℕ → I → Type 0
  Only n given = (o : O) → Allows given o → number o ≡ n

  abbrev pub Never : ℕ → I → Type 0
  Never n given = (o : O) → Allows given o → number o ≢ n

  -- for every answer there is something given for which it is excluded, whatever is left in a lent slice
  abbrev pub NotConstant : Type 0
  NotConstant = (o : O) → (given : I) × Never (number o) given

  pub record Varies : Type 0 where
    pub not_all_refused : (given : I) × Only 0 given
    pub not_all_accepted : (given : I) × Never 0 given
    pub not_constant : NotConstant

-- a reader's part has no number: handing back the whole run always, as on a refusal, is excluded, and so is every constant part, by its length
pub record PartVaries {I : Type 0} (Allows : I → List ℕ → Type 0) (run : I → List ℕ) : Type 0 where
  pub not_whole_run : (given : I) × (¬ Allows given (run given))
  pub not_constant : NotConstant Allows length

-- a put has no number of document 01: 0 where the bytes are put, 1 where there is no room for them
abbrev pub full : Perhaps ℕ → ℕ
full (Some after) = 0
full None = 1

-- a field for each public call; the text of `replay` has the number that C is told
pub record ConstantAnswers : Type 0 where
  pub read_net : Varies ReadNetAllows number
  pub read_weights : Varies (λ (i : List ℕ × ℕ). ReadWeightsAllows i.0 i.1) number
  pub read_movements : Varies ReadMovementsAllows number
  pub after_net : PartVaries AfterNetAllows (λ s. s)
  pub after_weights : PartVaries (λ (i : List ℕ × ℕ). AfterWeightsAllows i.0 i.1) (λ i. i.0)
  pub after_movements : PartVaries AfterMovementsAllows (λ s. s)
  pub whole_net : Varies WholeNetAllows number
  pub whole_weights : Varies (λ (i : List ℕ × ℕ). WholeWeightsAllows i.0 i.1) number
  pub whole_movements : Varies WholeMovementsAllows number
  pub begin : Varies (λ (i : List ℕ × List ℕ). BeginAllows i.0 i.1) (λ o. number o.0)
  pub test : Varies (λ (i : List ℕ × List ℕ × Mode). TestAllows i.0 i.1 i.2) number
  pub fire : Varies (λ (i : List ℕ × List ℕ × Mode). FireAllows i.0 i.1 i.2) (λ o. number o.0)
  pub test_step : Varies (λ (i : List ℕ × List ℕ × List ℕ). TestStepAllows i.0 i.1 i.2) number
  pub fire_step : Varies (λ (i : List ℕ × List ℕ × List ℕ). FireStepAllows i.0 i.1 i.2) (λ o. number o.0)
  pub run : Varies (λ (i : List ℕ × List ℕ × List ℕ). RunAllows i.0 i.1 i.2) (λ o. number o.0.answer)
  pub certify : Varies (λ (i : List ℕ × List ℕ × List ℕ). CertifyAllows i.0 i.1 i.2) number
  pub figure : Varies (λ (i : List ℕ × List ℕ × List ℕ). FigureAllows i.0 i.1 i.2) (λ o. (weigh.told o).carried.number)
  pub change : Varies (λ (i : List ℕ × List ℕ × Mode). ChangeAllows i.0 i.1 i.2) (λ o. (weigh.told o).carried.number)
  pub add_ship : Varies (λ (i : Fleet × List ℕ × List ℕ × List ℕ). AddShipAllows i.0 i.1 i.2 i.3) (λ o. number o.0)
  pub exclude : Varies (λ (i : List ℕ × List ℕ × List ℕ). ExcludeAllows i.0 i.1 i.2) number
  pub is_dead : Varies (λ (i : List ℕ × Mode). IsDeadAllows i.0 i.1) (λ o. (one.told o).carried.number)
  pub first_dead : Varies FirstDeadAllows (λ o. (first.told o).carried.number)
  pub size : Varies SizeAllows (λ o. (sizing.told o).carried.number)
  pub complement : Varies (λ (i : List ℕ × List ℕ). ComplementAllows i.0 i.1) (λ o. (emitting.told o.0).carried.number)
  pub to_version2 : Varies (λ (i : List ℕ × List ℕ). ToVersion2Allows i.0 i.1) (λ o. (emitting.told o.0).carried.number)
  pub to_version1 : Varies (λ (i : List ℕ × List ℕ). ToVersion1Allows i.0 i.1) (λ o. (emitting.told o.0).carried.number)
  pub strip : Varies (λ (i : List ℕ × Pair × List ℕ). StripAllows i.0 i.1 i.2) (λ o. (emitting.told o.0).carried.number)
  pub export_pnml : Varies (λ (i : List ℕ × List ℕ). ExportPnmlAllows i.0 i.1) (λ o. (emitting.told o.0).carried.number)
  pub import_pnml : Varies (λ (i : List ℕ × List ℕ). ImportPnmlAllows i.0 i.1) (λ o. (emitting.told o.0).carried.number)
  pub audit : Varies (λ (i : List ℕ × List ℕ × List ℕ). AuditAllows i.0 i.1 i.2) (λ o. (auditing.told o).carried.number)
  pub salvage : Varies (λ (i : List ℕ × List ℕ × List ℕ). SalvageAllows i.0 i.1 i.2) (λ o. (salvaging.told o.0).carried.number)
  pub put_bytes : Varies (λ (i : List ℕ × ℕ × List ℕ). PutBytesAllows i.0 i.1 i.2) (λ o. full o.0)
  pub put_decimal : Varies (λ (i : List ℕ × ℕ × ℕ). PutDecimalAllows i.0 i.1 i.2) (λ o. full o.0)
  pub put_signed : Varies (λ (i : List ℕ × ℕ × ℤ). PutSignedAllows i.0 i.1 i.2) (λ o. full o.0)
  pub statement : Varies (λ (i : List ℕ × List ℕ). StatementAllows i.0 i.1) (λ o. (emitting.told o.0).carried.number)
