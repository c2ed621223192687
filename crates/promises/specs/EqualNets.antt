-- Document 02, P9: "equal nets answer equally; only offsets in the net sheet, the sheets written and their lengths, refusal 10 for a short output, and the
-- conversions may differ". A field for each call that takes a net sheet, but the conversions, for all else that it may be given.
use Rattle.model.specs.declared.Refusal.{Refusal}
use Rattle.std.specs.Prelude.{Option as Perhaps, ℕ, ◌≤◌, ◌<◌, ◌≡◌, List, ◌++◌, ◌≢◌, length, take, Result, ℤ}
use Rattle.std.proofs.Math.Option.{none}
use Rattle.model.specs.declared.Pair.{Pair}
use Rattle.model.specs.declared.Mode.{Mode}
use Rattle.model.specs.Refusals.{Carried}
use Rattle.model.specs.Replies.{Reply, yields}
use Rattle.heads.specs.Bytes.{byte_at}
use Rattle.sheets.specs.nets.Allowed.{ReadNetAllows}
use Rattle.sheets.specs.Whole.{whole_net}
use Rattle.sheets.specs.Decoded.{net_of}
use Rattle.sheets.specs.Allowed.{AfterNetAllows, WholeNetAllows}
use Rattle.sheets.specs.Emitted as emitting
use Rattle.fire.specs.Allowed.{BeginAllows, TestAllows, FireAllows}
use Rattle.run.specs.Allowed.{RunAllows, CertifyAllows}
use Rattle.fire.specs.step.Allowed.{TestStepAllows, FireStepAllows}
use Rattle.statement.specs.weigh.Allowed.{FigureAllows, ChangeAllows}
use Rattle.ships.specs.declared.Fleet.{Fleet}
use Rattle.statement.specs.fleet.Allowed.{AddShipAllows}
use Rattle.statement.specs.exclude.Allowed.{ExcludeAllows}
use Rattle.opened.specs.dead.Allowed.{IsDeadAllows, FirstDeadAllows}
use Rattle.opened.specs.size.Allowed.{SizeAllows}
use Rattle.complement.specs.Complemented as complementing
use Rattle.complement.specs.Allowed.{ComplementAllows}
use Rattle.convert.specs.strip.Stripped as stripping
use Rattle.convert.specs.strip.Allowed.{StripAllows}
use Rattle.export.specs.Allowed.{ExportPnmlAllows}
use Rattle.complement.specs.audit.Audits as auditing
use Rattle.complement.specs.audit.Allowed.{AuditAllows}
use Rattle.run.specs.salvage.Allowed.{SalvageAllows}
use Rattle.statement.specs.Allowed.{StatementAllows}

-- two net sheets that are accepted and mean one net
pub record OneNet (a b : List ℕ) : Type 0 where
  pub first : whole_net a ≡ none
  pub second : whole_net b ≡ none
  pub net : net_of a ≡ net_of b

-- what the one contract allows the other allows; sheets of one net may change places, so that it holds both ways
abbrev pub Within : {A : Type 0} → (A → Type 0) → (A → Type 0) → Type 0
Within {A} One Other = (o : A) → One o → Other o

-- "offsets in the net sheet": of a sheet that is accepted 15 names one, that of an arc, and 19 one, that of a K or an I
pub record OffsetAside (x y : Carried) : Type 0 where
  pub number : x.number ≡ y.number
  pub thing : x.thing ≡ y.thing
  pub amount : x.amount ≡ y.amount
  pub position : x.number ≢ 15 → x.number ≢ 19 → x.position ≡ y.position

-- "refusal 10 for a short output" aside: an output slice that the complement's sheet fits into
abbrev pub Fits : List ℕ → List ℕ → Type 0
Fits net out = length (complementing.complement_sheet net) ≤ length out

-- "the sheets written and their lengths": where both calls write, they write one net again
pub record ComplementsAlike (o o' : Result ℕ Refusal × List ℕ) : Type 0 where
  pub carried : OffsetAside (emitting.told o.0).carried (emitting.told o'.0).carried
  pub written : (n n' : ℕ) → emitting.told o.0 ≡ yields n → emitting.told o'.0 ≡ yields n' → OneNet (take n o.1) (take n' o'.1)

-- stripping names no offset; where both calls write, they write one net again
abbrev pub StripFits : List ℕ → Pair → List ℕ → Type 0
StripFits net p out = length (stripping.stripped_sheet net p) ≤ length out

pub record StripsAlike (o o' : Result ℕ Refusal × List ℕ) : Type 0 where
  pub carried : (emitting.told o.0).carried ≡ (emitting.told o'.0).carried
  pub written : (n n' : ℕ) → emitting.told o.0 ≡ yields n → emitting.told o'.0 ≡ yields n' → OneNet (take n o.1) (take n' o'.1)

-- such an offset aside the same is told: an audit passes on what complementing refuses, and finds the same; an export has the same length
pub record RepliesAlike {A : Type 0} (r r' : Reply A) : Type 0 where
  pub carried : OffsetAside r.carried r'.carried
  pub value : r.value ≡ r'.value

-- a net sheet with bytes after it: the readers, and `replay`, whose text is one as long as neither input is long ("Input above 65,536 bytes prints only `long`.")
pub record AlikeBefore (a b more : List ℕ) : Type 0 where
  pub read_net : Within (ReadNetAllows (a ++ more)) (ReadNetAllows (b ++ more))
  pub after_net : Within (AfterNetAllows (a ++ more)) (AfterNetAllows (b ++ more))
  pub statement : (out : List ℕ) → length (a ++ more) ≤ 65536 → length (b ++ more) ≤ 65536
      → Within (StatementAllows (a ++ more) out) (StatementAllows (b ++ more) out)

-- every byte of a run is one
abbrev pub Bytes : List ℕ → Type 0
Bytes s = (i : ℕ) → i < length s → byte_at s i < 256

pub record Alike (a b : List ℕ) : Type 0 where
  pub whole_net : Within (WholeNetAllows a) (WholeNetAllows b)
  pub begin : (marking : List ℕ) → Within (BeginAllows a marking) (BeginAllows b marking)
  pub test : (marking : List ℕ) (t : Mode) → Within (TestAllows a marking t) (TestAllows b marking t)
  pub fire : (marking : List ℕ) (t : Mode) → Within (FireAllows a marking t) (FireAllows b marking t)
  pub test_step : (marking modes : List ℕ) → Within (TestStepAllows a marking modes) (TestStepAllows b marking modes)
  pub fire_step : (marking modes : List ℕ) → Within (FireStepAllows a marking modes) (FireStepAllows b marking modes)
  pub run : (movements marking : List ℕ) → Within (RunAllows a movements marking) (RunAllows b movements marking)
  pub certify : (movements claim : List ℕ) → Within (CertifyAllows a movements claim) (CertifyAllows b movements claim)
  pub figure : (weights marking : List ℕ) → Within (FigureAllows a weights marking) (FigureAllows b weights marking)
  pub change : (weights : List ℕ) (t : Mode) → Within (ChangeAllows a weights t) (ChangeAllows b weights t)
  pub add_ship : (found : Fleet) (weights movements : List ℕ) → Within (AddShipAllows found a weights movements) (AddShipAllows found b weights movements)
  pub exclude : (weights claim : List ℕ) → Within (ExcludeAllows a weights claim) (ExcludeAllows b weights claim)
  pub is_dead : (t : Mode) → Within (IsDeadAllows a t) (IsDeadAllows b t)
  pub first_dead : Within (FirstDeadAllows a) (FirstDeadAllows b)
  pub size : Within (SizeAllows a) (SizeAllows b)
  -- the sheet written is a movement sheet, the same to the byte
  pub salvage : (damaged out : List ℕ) → Within (SalvageAllows a damaged out) (SalvageAllows b damaged out)
  -- a text in PNML says neither version nor rule: it is the same to the byte
  pub export_pnml : (out : List ℕ) (o o' : Result ℕ Refusal × List ℕ) → ExportPnmlAllows a out o → ExportPnmlAllows b out o'
      → RepliesAlike (emitting.told o.0) (emitting.told o'.0) × (o.1 ≡ o'.1)
  pub complement : (out out' : List ℕ) (o o' : Result ℕ Refusal × List ℕ) → Fits a out → Fits b out'
      → ComplementAllows a out o → ComplementAllows b out' o' → ComplementsAlike o o'
  pub strip : (p : Pair) (out out' : List ℕ) (o o' : Result ℕ Refusal × List ℕ) → StripFits a p out → StripFits b p out'
      → StripAllows a p out o → StripAllows b p out' o' → StripsAlike o o'
  pub audit : (marking beside : List ℕ) (o o' : Result (Perhaps (Pair × ℤ)) Refusal) → AuditAllows a marking beside o → AuditAllows b marking beside o'
      → RepliesAlike (auditing.told o) (auditing.told o')
  pub before : (more : List ℕ) → Bytes a → Bytes b → AlikeBefore a b more

abbrev pub EqualNets : Type 0
EqualNets = (a b : List ℕ) → OneNet a b → Alike a b
