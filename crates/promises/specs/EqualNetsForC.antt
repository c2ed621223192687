-- Equal nets answer equally, of the calls for C: what they tell differs where EqualNets.antt says, and nowhere else.
use Rattle.std.specs.Prelude.{ℕ, ◌≤◌, ◌≡◌, List, ◌++◌, length}
use Rattle.model.specs.declared.Pair.{Pair}
use Rattle.model.specs.declared.Mode.{Mode}
use Rattle.model.specs.Refusals.{Carried, carries_by}
use Rattle.answers.specs.declared.Answered.{Answered}
use Rattle.answers.specs.declared.Counted.{Counted}
use Rattle.answers.specs.declared.Audited.{Audited}
use Rattle.ships.specs.declared.Fleet.{Fleet}
use Rattle.abi.specs.Allowed as c
use Rattle.promises.specs.EqualNets.{OneNet, Within, OffsetAside, Fits, StripFits, Bytes}

-- what an answer carries, as C is told it
abbrev pub carried_to_c : Answered → Carried
carried_to_c a = carries_by a.number a.thing a.position a.amount

pub record FindingsAlike (o o' : Audited) : Type 0 where
  pub answer : OffsetAside (carried_to_c o.answer) (carried_to_c o'.answer)
  pub found : o.found ≡ o'.found
  pub pair : o.pair ≡ o'.pair
  pub excess : o.excess ≡ o'.excess

-- a text in PNML, its length and what is left of the slice
pub record TextsAlike (o o' : Counted × List ℕ) : Type 0 where
  pub answer : OffsetAside (carried_to_c o.0.answer) (carried_to_c o'.0.answer)
  pub length : o.0.value ≡ o'.0.value
  pub text : o.1 ≡ o'.1

pub record AlikeForC (a b : List ℕ) : Type 0 where
  pub begin : (marking : List ℕ) → Within (c.BeginAllows a marking) (c.BeginAllows b marking)
  pub test : (marking : List ℕ) (t : Mode) → Within (c.TestAllows a marking t) (c.TestAllows b marking t)
  pub fire : (marking : List ℕ) (t : Mode) → Within (c.FireAllows a marking t) (c.FireAllows b marking t)
  pub test_step : (marking modes : List ℕ) → Within (c.TestStepAllows a marking modes) (c.TestStepAllows b marking modes)
  pub fire_step : (marking modes : List ℕ) → Within (c.FireStepAllows a marking modes) (c.FireStepAllows b marking modes)
  pub run : (movements marking : List ℕ) → Within (c.RunAllows a movements marking) (c.RunAllows b movements marking)
  pub certify : (movements claim : List ℕ) → Within (c.CertifyAllows a movements claim) (c.CertifyAllows b movements claim)
  pub figure : (weights marking : List ℕ) → Within (c.FigureAllows a weights marking) (c.FigureAllows b weights marking)
  pub change : (weights : List ℕ) (t : Mode) → Within (c.ChangeAllows a weights t) (c.ChangeAllows b weights t)
  pub fleet_add : (found : Fleet) (weights movements : List ℕ) → Within (c.FleetAddAllows found a weights movements) (c.FleetAddAllows found b weights movements)
  pub exclude : (weights claim : List ℕ) → Within (c.ExcludeAllows a weights claim) (c.ExcludeAllows b weights claim)
  pub is_dead : (t : Mode) → Within (c.IsDeadAllows a t) (c.IsDeadAllows b t)
  pub first_dead : Within (c.FirstDeadAllows a) (c.FirstDeadAllows b)
  pub size : Within (c.SizeAllows a) (c.SizeAllows b)
  pub salvage : (damaged out : List ℕ) → Within (c.SalvageAllows a damaged out) (c.SalvageAllows b damaged out)
  pub export_pnml : (out : List ℕ) (o o' : Counted × List ℕ) → c.ExportPnmlAllows a out o → c.ExportPnmlAllows b out o' → TextsAlike o o'
  -- the output slice is left as the library's call leaves it
  pub complement : (out out' : List ℕ) (o o' : Counted × List ℕ) → Fits a out → Fits b out'
      → c.ComplementAllows a out o → c.ComplementAllows b out' o' → OffsetAside (carried_to_c o.0.answer) (carried_to_c o'.0.answer)
  pub strip : (p : Pair) (out out' : List ℕ) (o o' : Counted × List ℕ) → StripFits a p out → StripFits b p out'
      → c.StripAllows a p out o → c.StripAllows b p out' o' → o.0.answer ≡ o'.0.answer
  pub audit : (marking beside : List ℕ) (o o' : Audited) → c.AuditAllows a marking beside o → c.AuditAllows b marking beside o'
      → FindingsAlike o o'
  -- how many bytes the sheet takes is told beside the answer, and may differ
  pub read_net : (more : List ℕ) → Bytes a → Bytes b → (o o' : Counted) → c.ReadNetAllows (a ++ more) o → c.ReadNetAllows (b ++ more) o' → o.answer ≡ o'.answer
  pub statement : (more : List ℕ) → Bytes a → Bytes b → (out : List ℕ) → length (a ++ more) ≤ 65536 → length (b ++ more) ≤ 65536
      → Within (c.StatementAllows (a ++ more) out) (c.StatementAllows (b ++ more) out)

abbrev pub EqualNetsForC : Type 0
EqualNetsForC = (a b : List ℕ) → OneNet a b → AlikeForC a b
