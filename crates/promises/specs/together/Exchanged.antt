-- Exchange with PNML tools (document 02, P5): what comes back by import moves as what was exported did. That import accepts it, and that its text is the same,
-- is in promises/specs/Exchange.antt.
use Rattle.std.specs.Prelude.{ℕ, List}
use Rattle.model.specs.declared.Mode.{Mode}
use Rattle.fire.specs.Allowed.{BeginAllows, TestAllows, FireAllows}
use Rattle.run.specs.Allowed.{RunAllows, CertifyAllows}
use Rattle.fire.specs.step.Allowed.{TestStepAllows, FireStepAllows}
use Rattle.statement.specs.weigh.Allowed.{FigureAllows, ChangeAllows}
use Rattle.ships.specs.declared.Fleet.{Fleet}
use Rattle.statement.specs.fleet.Allowed.{AddShipAllows}
use Rattle.statement.specs.exclude.Allowed.{ExcludeAllows}
use Rattle.opened.specs.dead.Allowed.{IsDeadAllows, FirstDeadAllows}
use Rattle.opened.specs.size.Allowed.{SizeAllows}
use Rattle.run.specs.salvage.Allowed.{SalvageAllows}
use Rattle.promises.specs.EqualNets.{Within}
use Rattle.promises.specs.TwoRuns.{RunAlike}
use Rattle.promises.specs.together.Wrote.{ComplementWrote, ExportWrote, ImportWrote}

-- 1. A net sheet and the one that came back of it, whose places and transitions are others, and whose rule may be. A field for each call that asks of a net what
-- its pairs and modes do; a contract allows one outcome (`Uniqueness`), so that each holds both ways.
pub record MovesAlike (sheet back : List ℕ) : Type 0 where
  pub begin : (m : List ℕ) → Within (BeginAllows sheet m) (BeginAllows back m)
  pub test : (m : List ℕ) (t : Mode) → Within (TestAllows sheet m t) (TestAllows back m t)
  pub fire : (m : List ℕ) (t : Mode) → Within (FireAllows sheet m t) (FireAllows back m t)
  pub test_step : (m modes : List ℕ) → Within (TestStepAllows sheet m modes) (TestStepAllows back m modes)
  pub fire_step : (m modes : List ℕ) → Within (FireStepAllows sheet m modes) (FireStepAllows back m modes)
  -- as many movements accepted, the same refusal with its position and amount, as many arcs visited, the same marking left
  pub run : (movements m : List ℕ) → Within (RunAllows sheet movements m) (RunAllows back movements m)
  pub certify : (movements claim : List ℕ) → Within (CertifyAllows sheet movements claim) (CertifyAllows back movements claim)
  pub salvage : (damaged out : List ℕ) → Within (SalvageAllows sheet damaged out) (SalvageAllows back damaged out)
  pub figure : (weights m : List ℕ) → Within (FigureAllows sheet weights m) (FigureAllows back weights m)
  pub change : (weights : List ℕ) (t : Mode) → Within (ChangeAllows sheet weights t) (ChangeAllows back weights t)
  pub exclude : (weights claim : List ℕ) → Within (ExcludeAllows sheet weights claim) (ExcludeAllows back weights claim)
  pub add_ship : (found : Fleet) (weights movements : List ℕ) → Within (AddShipAllows found sheet weights movements) (AddShipAllows found back weights movements)
  pub is_dead : (t : Mode) → Within (IsDeadAllows sheet t) (IsDeadAllows back t)
  pub first_dead : Within (FirstDeadAllows sheet) (FirstDeadAllows back)
  pub size : Within (SizeAllows sheet) (SizeAllows back)

abbrev pub MovesAsBefore : Type 0
MovesAsBefore = (sheet text back : List ℕ) → ExportWrote sheet text → ImportWrote text back → MovesAlike sheet back

-- 2. Demand 3 over the exchange: a net runs alike with its complement as it came back.
abbrev pub ComplementComesBack : Type 0
ComplementComesBack = (net sheet text back : List ℕ) → ComplementWrote net sheet → ExportWrote sheet text → ImportWrote text back → RunAlike net back
