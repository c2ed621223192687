-- Document 02, P9. Sheet version 2.
use Rattle.model.specs.declared.Refusal.{Refusal}
use Rattle.std.specs.Prelude.{Option as Perhaps, ℕ, ◌≤◌, ◌<◌, ◌≡◌, List, ◌++◌, ◌≢◌, length, take, Result, ℤ}
use Rattle.std.proofs.Math.Option.{none}
use Rattle.model.specs.declared.Pair.{Pair}
use Rattle.model.specs.Refusals.{Carried, carries}
use Rattle.model.specs.Replies.{Reply, yields}
use Rattle.sheets.specs.Whole.{whole_net}
use Rattle.sheets.specs.Decoded.{net_of}
use Rattle.sheets.specs.Emitted as emitting
use Rattle.complement.specs.Complemented.{complement_sheet}
use Rattle.convert.specs.strip.Stripped.{stripped_sheet}
use Rattle.complement.specs.audit.Audits as auditing
use Rattle.sentences.specs.Bytes.{Bytes}
use Rattle.sentences.specs.Call.{Call}
use Rattle.sentences.specs.Calls.{Public, emits, call, for_c}
use Rattle.heads.specs.Version.{version_of}
use Rattle.model.specs.declared.Version.{Version}
use Rattle.model.specs.declared.Version.TheVariants.{One, Two}
use Rattle.convert.specs.Allowed.{ToVersion1Allows, ToVersion2Allows}
use Rattle.sentences.specs.Wrote.{Writing, CallWrote, WritesLength}
use Rattle.sentences.specs.EveryCall.{Alone, alone}
use Rattle.sentences.specs.CallTables.{HasTable}

-- Document 02, P9: "equal nets answer equally; only offsets in the net sheet, the sheets written and their lengths, refusal 10 for a short output, and the
-- conversions may differ", for all else that a call may be given.

-- two net sheets that are accepted and mean one net
pub record OneNet (a b : List ℕ) : Type 0 where
  pub first : whole_net a ≡ none
  pub second : whole_net b ≡ none
  pub net : net_of a ≡ net_of b

-- every outcome that is allowed of i is allowed of j; with `Uniqueness`, the two answer alike and leave the same
abbrev pub Within : (c : Call) → c.Given → c.Given → Type 0
Within c i j = (answer : c.Answers) (left : c.Lent) → c.Allows i answer left → c.Allows j answer left

-- the same given, with another net sheet, to a call that asks of a net what its pairs and modes do; to any other nothing is changed
abbrev pub with_net : (c : Public) → List ℕ → (call c).Given → (call c).Given
with_net Public.begin s i = (s, i.1)
with_net Public.test s i = (s, i.1, i.2)
with_net Public.fire s i = (s, i.1, i.2)
with_net Public.test_step s i = (s, i.1, i.2)
with_net Public.fire_step s i = (s, i.1, i.2)
with_net Public.run s i = (s, i.1, i.2)
with_net Public.certify s i = (s, i.1, i.2)
with_net Public.figure s i = (s, i.1, i.2)
with_net Public.change s i = (s, i.1, i.2)
with_net Public.fleet_add s i = (i.0, s, i.2, i.3)
with_net Public.exclude s i = (s, i.1, i.2)
with_net Public.is_dead s i = (s, i.1)
with_net Public.first_dead s i = s
with_net Public.size s i = s
with_net Public.salvage s i = (s, i.1, i.2)
-- for these the line over all calls is empty: they name an offset or write a net sheet, and each has a field of its own below
with_net Public.complement s i = i
with_net Public.strip s i = i
with_net Public.export_pnml s i = i
with_net Public.audit s i = i
-- empty too: "the conversions may differ"
with_net Public.to_version2 s i = i
with_net Public.to_version1 s i = i
-- empty too: these take a net sheet with bytes after it, for which there is `before`, or none
with_net Public.read_net s i = i
with_net Public.statement s i = i
with_net Public.read_weights s i = i
with_net Public.read_movements s i = i
with_net Public.import_pnml s i = i

-- "offsets in the net sheet": of a sheet that is accepted 15 names one, that of an arc, and 19 one, that of a K or an I
pub record OffsetAside (x y : Carried) : Type 0 where
  pub number : x.number ≡ y.number
  pub thing : x.thing ≡ y.thing
  pub amount : x.amount ≡ y.amount
  pub position : x.number ≢ 15 → x.number ≢ 19 → x.position ≡ y.position

-- "refusal 10 for a short output": they carry alike, or the one slice is shorter than its sheet and refused by 10, where the other holds its own and is accepted
pub data ShortAside (Alike : Carried → Carried → Type 0) (short short' : Type 0) (x y : Carried) : Type 0 where
  alike : Alike x y → ShortAside Alike short short' x y
  first_short : short → x ≡ carries 10 0 0 → y ≡ carries 0 0 0 → ShortAside Alike short short' x y
  second_short : short' → x ≡ carries 0 0 0 → y ≡ carries 10 0 0 → ShortAside Alike short short' x y

-- "the sheets written and their lengths": where both calls write, they write one net again
pub record SheetsAlike (Alike : Carried → Carried → Type 0) (short short' : Type 0) (e e' : Result ℕ Refusal) (left left' : List ℕ) : Type 0 where
  pub carried : ShortAside Alike short short' (emits e) (emits e')
  pub written : (n n' : ℕ) → emitting.told e ≡ yields n → emitting.told e' ≡ yields n' → OneNet (take n left) (take n' left')

-- such an offset aside the same is told: an audit passes on what complementing refuses; an export has the same length
pub record RepliesAlike {A : Type 0} (r r' : Reply A) : Type 0 where
  pub carried : OffsetAside r.carried r'.carried
  pub value : r.value ≡ r'.value

-- a net sheet with bytes after it: the readers, and `replay`, whose text is one as long as neither input is above 65,536 bytes
pub record AlikeBefore (a b more : List ℕ) : Type 0 where
  pub read_net : Within (call Public.read_net) (a ++ more) (b ++ more)
  pub after_net : Within (alone Alone.after_net) (a ++ more) (b ++ more)
  pub statement : (out : List ℕ) → length (a ++ more) ≤ 65536 → length (b ++ more) ≤ 65536 → Within (call Public.statement) (a ++ more, out) (b ++ more, out)
  pub statement_for_c : (out : List ℕ) → length (a ++ more) ≤ 65536 → length (b ++ more) ≤ 65536
      → Within (for_c Public.statement) (a ++ more, out) (b ++ more, out)

pub record Alike (a b : List ℕ) : Type 0 where
  pub whole_net : Within (alone Alone.whole_net) a b
  pub each : (c : Public) (i : (call c).Given) → Within (call c) (with_net c a i) (with_net c b i)
  pub each_for_c : (c : Public) (i : (call c).Given) → Within (for_c c) (with_net c a i) (with_net c b i)
  -- a text in PNML says neither version nor rule: it is the same to the byte
  pub export_pnml : (out : List ℕ) (e e' : Result ℕ Refusal) (left left' : List ℕ) → (call Public.export_pnml).Allows (a, out) e left
      → (call Public.export_pnml).Allows (b, out) e' left'
      → RepliesAlike (emitting.told e) (emitting.told e') × (left ≡ left')
  pub audit : (marking beside : List ℕ) (f f' : Result (Perhaps (Pair × ℤ)) Refusal) → (call Public.audit).Allows (a, marking, beside) f tt
      → (call Public.audit).Allows (b, marking, beside) f' tt
      → RepliesAlike (auditing.told f) (auditing.told f')
  pub complement : (out out' : List ℕ) (e e' : Result ℕ Refusal) (left left' : List ℕ) → (call Public.complement).Allows (a, out) e left
      → (call Public.complement).Allows (b, out') e' left'
      → SheetsAlike OffsetAside (length out < length (complement_sheet a)) (length out' < length (complement_sheet b)) e e' left left'
  -- stripping names no offset
  pub strip : (p : Pair) (out out' : List ℕ) (e e' : Result ℕ Refusal) (left left' : List ℕ) → (call Public.strip).Allows (a, p, out) e left
      → (call Public.strip).Allows (b, p, out') e' left'
      → SheetsAlike (λ x y. x ≡ y) (length out < length (stripped_sheet a p)) (length out' < length (stripped_sheet b p)) e e' left left'
  pub before : (more : List ℕ) → Bytes a → Bytes b → AlikeBefore a b more

abbrev pub EqualNets : Type 0
EqualNets = (a b : List ℕ) → OneNet a b → Alike a b

-- a conversion to a version, and the one back
module _ (target : Version) (There Back : List ℕ → Writing) (s : List ℕ) where
  pub record Converted (sheet : List ℕ) : Type 0 where
    -- a net sheet of that version, of the same net
    pub accepted : whole_net sheet ≡ none
    pub version : version_of sheet ≡ target
    pub same : net_of sheet ≡ net_of s
    -- "with the old bytes returned exactly"
    pub back : (old : List ℕ) → CallWrote (Back sheet) old → old ≡ s
    pub room : (out left : List ℕ) (e : Result ℕ Refusal) → Back sheet out (e, left) → length s ≤ length out → emitting.told e ≡ yields (length s)

  abbrev pub Converts : Type 0
  Converts = WritesLength (There s) × (Bytes s → (sheet : List ℕ) → CallWrote (There s) sheet → Converted sheet)

pub record P9 : Type 0 where
  -- "Add conversion from 1 to 2 and back, with the old bytes returned exactly."
  pub to2 : (s : List ℕ) → Converts Two ToVersion2Allows ToVersion1Allows s
  pub to1 : (s : List ℕ) → Converts One ToVersion1Allows ToVersion2Allows s
  -- "Every other call takes either version and writes the version and rule it was given (PNML import writes 1); demands 2 and 3 are then over the net read.": see
  -- `whole_net` and `net_of`, which read both; of what is written, `InComplement.version`, `Stripped.version` and `ComesBack.version`.
  -- "State once, over both versions, that equal nets answer equally; only offsets in the net sheet, the sheets written and their lengths, refusal 10 for a short output,
  -- and the conversions may differ."
  pub equal_nets : EqualNets
  -- "Refusals: 4 for another rule byte, or at the arc count whose running total passes 2,048; 7 now compares pairs within a mode": see `group_table`.
  -- An old reader is a program of before: "a conversion answers 2 to a sheet of its target version and 10 to a short output."
  pub to_version2 : HasTable Public.to_version2
  pub to_version1 : HasTable Public.to_version1
