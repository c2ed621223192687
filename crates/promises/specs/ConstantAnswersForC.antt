-- The calls for C: each contract accepts something, refuses something, and excludes every answer somewhere, by the number that C is told.
use Rattle.std.specs.Prelude.{ℕ, List}
use Rattle.model.specs.declared.Pair.{Pair}
use Rattle.model.specs.declared.Mode.{Mode}
use Rattle.ships.specs.declared.Fleet.{Fleet}
use Rattle.abi.specs.Allowed as c
use Rattle.promises.specs.ConstantAnswers.{Varies}

pub record ConstantAnswersForC : Type 0 where
  pub read_net : Varies c.ReadNetAllows (λ o. o.answer.number)
  pub read_weights : Varies (λ (i : List ℕ × ℕ). c.ReadWeightsAllows i.0 i.1) (λ o. o.answer.number)
  pub read_movements : Varies c.ReadMovementsAllows (λ o. o.answer.number)
  pub begin : Varies (λ (i : List ℕ × List ℕ). c.BeginAllows i.0 i.1) (λ o. o.0.number)
  pub test : Varies (λ (i : List ℕ × List ℕ × Mode). c.TestAllows i.0 i.1 i.2) (λ o. o.number)
  pub fire : Varies (λ (i : List ℕ × List ℕ × Mode). c.FireAllows i.0 i.1 i.2) (λ o. o.0.number)
  pub test_step : Varies (λ (i : List ℕ × List ℕ × List ℕ). c.TestStepAllows i.0 i.1 i.2) (λ o. o.number)
  pub fire_step : Varies (λ (i : List ℕ × List ℕ × List ℕ). c.FireStepAllows i.0 i.1 i.2) (λ o. o.0.number)
  pub run : Varies (λ (i : List ℕ × List ℕ × List ℕ). c.RunAllows i.0 i.1 i.2) (λ o. o.0.answer.number)
  pub certify : Varies (λ (i : List ℕ × List ℕ × List ℕ). c.CertifyAllows i.0 i.1 i.2) (λ o. o.number)
  pub figure : Varies (λ (i : List ℕ × List ℕ × List ℕ). c.FigureAllows i.0 i.1 i.2) (λ o. o.answer.number)
  pub change : Varies (λ (i : List ℕ × List ℕ × Mode). c.ChangeAllows i.0 i.1 i.2) (λ o. o.answer.number)
  pub fleet_add : Varies (λ (i : Fleet × List ℕ × List ℕ × List ℕ). c.FleetAddAllows i.0 i.1 i.2 i.3) (λ o. o.0.number)
  pub exclude : Varies (λ (i : List ℕ × List ℕ × List ℕ). c.ExcludeAllows i.0 i.1 i.2) (λ o. o.number)
  pub is_dead : Varies (λ (i : List ℕ × Mode). c.IsDeadAllows i.0 i.1) (λ o. o.answer.number)
  pub first_dead : Varies c.FirstDeadAllows (λ o. o.answer.number)
  pub size : Varies c.SizeAllows (λ o. o.answer.number)
  pub complement : Varies (λ (i : List ℕ × List ℕ). c.ComplementAllows i.0 i.1) (λ o. o.0.answer.number)
  pub to_version2 : Varies (λ (i : List ℕ × List ℕ). c.ToVersion2Allows i.0 i.1) (λ o. o.0.answer.number)
  pub to_version1 : Varies (λ (i : List ℕ × List ℕ). c.ToVersion1Allows i.0 i.1) (λ o. o.0.answer.number)
  pub strip : Varies (λ (i : List ℕ × Pair × List ℕ). c.StripAllows i.0 i.1 i.2) (λ o. o.0.answer.number)
  pub export_pnml : Varies (λ (i : List ℕ × List ℕ). c.ExportPnmlAllows i.0 i.1) (λ o. o.0.answer.number)
  pub import_pnml : Varies (λ (i : List ℕ × List ℕ). c.ImportPnmlAllows i.0 i.1) (λ o. o.0.answer.number)
  pub audit : Varies (λ (i : List ℕ × List ℕ × List ℕ). c.AuditAllows i.0 i.1 i.2) (λ o. o.answer.number)
  pub salvage : Varies (λ (i : List ℕ × List ℕ × List ℕ). c.SalvageAllows i.0 i.1 i.2) (λ o. o.0.answer.number)
  pub statement : Varies (λ (i : List ℕ × List ℕ). c.StatementAllows i.0 i.1) (λ o. o.0.answer.number)
