-- Document 01's own example, as the calls are given it, and what their contracts allow on it.
use Rattle.opened.specs.declared.size.NetSize.{NetSize}
use Rattle.model.specs.declared.Pair.{Pair}
use Rattle.model.specs.declared.Mode.{Mode}
use Rattle.model.specs.declared.Refusal.{Refusal}
use Rattle.std.specs.Prelude.{Option as Perhaps, ℕ, ◌≡◌, false, List, [], ◌∷◌, ◌++◌, pos, negsuc, take, replicate, Result, Bool, ℤ}
use Rattle.std.proofs.Math.Option.{none, some}
use Rattle.model.specs.Refusals.{Answer}
use Rattle.model.specs.declared.Version.TheVariants.{One}
use Rattle.model.specs.Refusals.{number, carries_by, carried, carries}
use Rattle.model.specs.Replies.{yields}
use Rattle.model.specs.Nets.{PNet, pair_no, mode_no}
use Rattle.both_forms.specs.WorkedExamples.{own_example}
use Rattle.sheets.specs.written.Written.{sheet_of}
use Rattle.sheets.specs.Emitted as emitting
use Rattle.fire.specs.Allowed.{BeginAllows, TestAllows, FireAllows}
use Rattle.run.specs.declared.Ran.{Ran}
use Rattle.run.specs.Allowed.{RunAllows, CertifyAllows}
use Rattle.fire.specs.step.Allowed.{TestStepAllows, FireStepAllows}
use Rattle.statement.specs.weigh.Calls as weigh
use Rattle.statement.specs.weigh.Allowed.{FigureAllows, ChangeAllows}
use Rattle.ships.specs.declared.Fleet.{Fleet}
use Rattle.ships.specs.Promises.{zeros}
use Rattle.statement.specs.fleet.Allowed.{AddShipAllows}
use Rattle.statement.specs.exclude.Allowed.{ExcludeAllows}
use Rattle.opened.specs.dead.IsDead as one
use Rattle.opened.specs.dead.FirstDead as first
use Rattle.opened.specs.dead.Allowed.{IsDeadAllows, FirstDeadAllows}
use Rattle.opened.specs.size.Sizes as sizing
use Rattle.opened.specs.size.Allowed.{SizeAllows}
use Rattle.complement.specs.Allowed.{ComplementAllows}
use Rattle.pnml.specs.Pnml.{opening, closing}
use Rattle.export.specs.Allowed.{ExportPnmlAllows}
use Rattle.import.specs.Allowed.{ImportPnmlAllows}
use Rattle.complement.specs.audit.Audits as auditing
use Rattle.complement.specs.audit.Allowed.{AuditAllows}
use Rattle.run.specs.declared.salvage.Report.{Report}
use Rattle.run.specs.salvage.Salvaged as salvaging
use Rattle.run.specs.salvage.Allowed.{SalvageAllows}
use Rattle.statement.specs.Example.{weights, movements}
use Rattle.text.specs.Ascii.{ascii}

-- "two places, aboard (one colour, K 5, first 3) and ashore (one colour, unbounded, first 0); one transition of one mode; arcs 0,0 with Pre 1, Post 0, I 4
-- and 0,1 with Pre 0, Post 1, I unbounded"
abbrev pub example : PNet
example = own_example.net

abbrev pub net : List ℕ
net = sheet_of One example

-- the three of its movements that are accepted
abbrev pub three : List ℕ
three = 0 ∷ 0 ∷ 0 ∷ 7 ∷ 1 ∷ replicate 6 0

-- five landed at once, of three aboard
abbrev pub five : List ℕ
five = replicate 5 0

-- weights of 1 for each pair: how many items there are, which no movement changes
abbrev pub even : List ℕ
even = 0 ∷ 0 ∷ 0 ∷ 11 ∷ 1 ∷ 0 ∷ 2 ∷ 0 ∷ 0 ∷ 0 ∷ 1 ∷ 0 ∷ 0 ∷ 0 ∷ 1 ∷ []

-- a slice with room for the complement, which "has L = 87"
abbrev pub room : List ℕ
room = replicate 91 0

-- its complement, with "first marking 3, 0, 2, and a third arc 0,2 with Pre 1, Post 2", as a sheet and as a text in PNML
abbrev pub complement_net : List ℕ
complement_net = sheet_of One own_example.printed

abbrev pub places : List ℕ
places =
    ascii "      <place id=\"p000\"><initialMarking><text>3</text></initialMarking></place>\n"
    ++ ascii "      <place id=\"p001\"><initialMarking><text>0</text></initialMarking></place>\n"
    ++ ascii "      <place id=\"p002\"><initialMarking><text>2</text></initialMarking></place>\n"

abbrev pub arcs : List ℕ
arcs =
    ascii "      <arc id=\"i000-000\" source=\"p000\" target=\"t000\"><inscription><text>1</text></inscription></arc>\n"
    ++ ascii "      <arc id=\"o000-001\" source=\"t000\" target=\"p001\"><inscription><text>1</text></inscription></arc>\n"
    ++ ascii "      <arc id=\"i000-002\" source=\"p002\" target=\"t000\"><inscription><text>1</text></inscription></arc>\n"
    ++ ascii "      <arc id=\"o000-002\" source=\"t000\" target=\"p002\"><inscription><text>2</text></inscription></arc>\n"

abbrev pub text : List ℕ
text = opening ++ places ++ ascii "      <transition id=\"t000\"/>\n" ++ arcs ++ closing

pub record RunsTo (o : Ran × List ℕ) : Type 0 where
  pub accepted : o.0.accepted ≡ 3
  pub visited : o.0.visited ≡ 8
  pub refused : carried o.0.answer ≡ carries_by 11 2 0 1
  pub marking : o.1 ≡ 0 ∷ 3 ∷ []

-- its fourth movement is dropped: the sheet written lists three, in 11 bytes
pub record SalvagesTo (o : Result Report Refusal × List ℕ) : Type 0 where
  pub report : Report
  pub told : salvaging.told o.0 ≡ yields report
  pub counts : (report.length ≡ 11) × (report.kept ≡ 3) × (report.dropped ≡ 1)
  pub stop : carried report.stop ≡ carries_by 11 2 0 1
  pub sheet : take 11 o.1 ≡ three

pub record OwnExample : Type 0 where
  pub begin : (o : Answer × List ℕ) → BeginAllows net (0 ∷ 0 ∷ []) o → (number o.0 ≡ 0) × (o.1 ≡ 3 ∷ 0 ∷ [])
  pub fire : (o : Answer × List ℕ) → FireAllows net (3 ∷ 0 ∷ []) (mode_no 0) o → (number o.0 ≡ 0) × (o.1 ≡ 2 ∷ 1 ∷ [])
  -- the three aboard, landed at once
  pub fire_step : (o : Answer × List ℕ) → FireStepAllows net (3 ∷ 0 ∷ []) (0 ∷ 0 ∷ 0 ∷ []) o → (number o.0 ≡ 0) × (o.1 ≡ 0 ∷ 3 ∷ [])
  -- none is left aboard: one token is lacking; and two for five at once of three
  pub test : (told : Answer) → TestAllows net (0 ∷ 3 ∷ []) (mode_no 0) told → carried told ≡ carries_by 11 3 0 1
  pub test_step : (told : Answer) → TestStepAllows net (3 ∷ 0 ∷ []) five told → carried told ≡ carries_by 11 3 0 2
  -- "refused 4 0 11 0 1", "end 3 0"; four movements tried, of two arcs each
  pub run : (o : Ran × List ℕ) → RunAllows net movements (3 ∷ 0 ∷ []) o → RunsTo o
  pub salvage : (o : Result Report Refusal × List ℕ) → SalvageAllows net movements room o → SalvagesTo o
  pub certify : (told : Answer) → CertifyAllows net three (0 ∷ 3 ∷ []) told → number told ≡ 0
  -- "start 750"
  pub figure : (o : Result ℤ Refusal) → FigureAllows net weights (3 ∷ 0 ∷ []) o → weigh.told o ≡ yields (pos 750)
  -- -250
  pub change : (o : Result ℤ Refusal) → ChangeAllows net weights (mode_no 0) o → weigh.told o ≡ yields (negsuc 249)
  -- a ship of its three sheets into a record of zeros: three movements of 250 kilograms off, the fourth refused by 11
  pub add_ship : (o : Answer × Fleet) → AddShipAllows zeros net weights movements o
      → (number o.0 ≡ 0) × (o.1 ≡ record { ships = 1; movements = 3; by6 = 0; by11 = 1; by12 = 0; by13 = 0; by14 = 0; added = pos 0; removed = pos 750 })
  -- there are three items and never four; that three are ashore is not excluded, nor anything by the weights of its figure, which its one mode changes
  pub exclude : (told : Answer) → ExcludeAllows net even (3 ∷ 1 ∷ []) told → number told ≡ 0
  pub not_excluded : (told : Answer) → ExcludeAllows net even (0 ∷ 3 ∷ []) told → carried told ≡ carries 22 0 0
  pub not_balanced : (told : Answer) → ExcludeAllows net weights (3 ∷ 1 ∷ []) told → carried told ≡ carries 21 0 0
  pub is_dead : (o : Result Bool Refusal) → IsDeadAllows net (mode_no 0) o → one.told o ≡ yields false
  pub first_dead : (o : Result (Perhaps (Mode × Pair)) Refusal) → FirstDeadAllows net o → first.told o ≡ yields none
  -- two places of one colour, one mode, two arcs
  pub size : (o : Result NetSize Refusal) → SizeAllows net o → sizing.told o ≡ yields (record { pairs = 2; modes = 1; arcs = 2 })
  pub complement : (o : Result ℕ Refusal × List ℕ) → ComplementAllows net room o → emitting.told o.0 ≡ yields 91
  -- its complement to the byte in PNML, and back
  pub export_pnml : (o : Result ℕ Refusal × List ℕ) → ExportPnmlAllows complement_net (replicate 887 0) o → (emitting.told o.0 ≡ yields 887) × (o.1 ≡ text)
  pub import_pnml : (o : Result ℕ Refusal × List ℕ) → ImportPnmlAllows text room o → (emitting.told o.0 ≡ yields 91) × (o.1 ≡ complement_net)
  -- one landed, and left aboard in the net's marking: pair 0, one token too many
  pub audit : (o : Result (Perhaps (Pair × ℤ)) Refusal) → AuditAllows net (3 ∷ 1 ∷ []) (2 ∷ 1 ∷ 3 ∷ []) o → auditing.told o ≡ yields (some (record { pair = pair_no 0; excess = pos 1 }))
