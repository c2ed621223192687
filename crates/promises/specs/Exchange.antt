-- Document 02, P5, over bytes and by the contracts of the calls: "Import reads exactly what export writes."
use Rattle.model.specs.declared.Refusal.{Refusal}
use Rattle.std.specs.Prelude.{ℕ, ◌+◌, ◌*◌, ◌≤◌, ◌<◌, ◌≡◌, List, ◌++◌, ◌⊎◌, length, take, drop, Result}
use Rattle.std.proofs.Math.Option.{none}
use Rattle.model.specs.declared.Version.TheVariants.{One}
use Rattle.model.specs.Refusals.{carries}
use Rattle.model.specs.Replies.{yields}
use Rattle.model.specs.Nets.{PNet, pairs, modes}
use Rattle.second_form.specs.Complement.{complement}
use Rattle.heads.specs.Version.{version_of}
use Rattle.sheets.specs.Whole.{whole_net}
use Rattle.sheets.specs.Decoded.{net_of}
use Rattle.sheets.specs.Emitted as emitting
use Rattle.complement.specs.Allowed.{ComplementAllows}
use Rattle.pnml.specs.Pnml.{pnml}
use Rattle.export.specs.Allowed.{ExportPnmlAllows}
use Rattle.import.specs.Promises.{SameNumbers}
use Rattle.import.specs.Allowed.{ImportPnmlAllows}

-- how many bytes the sheet of version 1 takes, with one colour to a place and one mode to a transition
abbrev pub single_bytes : PNet → ℕ
single_bytes net = 11 + 10 * pairs net + 2 * modes net + 16 * length net.arcs

-- "has the same pairs, modes, numbers and first marking, with each pair a place of one colour and each mode a transition of one mode": what is left of the slice
-- that import is lent begins with such a sheet, and no byte after it is touched
pub record ComesBack (net : PNet) (out : List ℕ) (o : Result ℕ Refusal × List ℕ) : Type 0 where
  pub answered : emitting.told o.0 ≡ yields (single_bytes net)
  pub version : version_of (take (single_bytes net) o.1) ≡ One
  pub accepted : whole_net (take (single_bytes net) o.1) ≡ none
  pub same : SameNumbers net (net_of (take (single_bytes net) o.1))
  pub untouched : drop (single_bytes net) o.1 ≡ drop (single_bytes net) out

-- what import answers to the export of a net: the sheet, "4 where there are more than 64 pairs or modes, then 10"; so never 20
pub record ImportAnswers (net : PNet) (out : List ℕ) (o : Result ℕ Refusal × List ℕ) : Type 0 where
  pub comes_back : pairs net ≤ 64 → modes net ≤ 64 → single_bytes net ≤ length out → ComesBack net out o
  pub too_many : (64 < pairs net) ⊎ (64 < modes net) → (emitting.told o.0).carried ≡ carries 4 3 0
  pub too_short : pairs net ≤ 64 → modes net ≤ 64 → length out < single_bytes net → (emitting.told o.0).carried ≡ carries 10 0 0

-- a net sheet of either version and rule, exported into any slice that the text fits into, and the text imported into any slice
abbrev pub ExportThenImport : Type 0
ExportThenImport = (net out : List ℕ) (o : Result ℕ Refusal × List ℕ) (n : ℕ) → ExportPnmlAllows net out o → emitting.told o.0 ≡ yields n
    → (out' : List ℕ) (o' : Result ℕ Refusal × List ℕ) → ImportPnmlAllows (take n o.1) out' o' → ImportAnswers (net_of net) out' o'

-- a text is written, or 10 is answered: nothing else is refused
pub record ExportAnswers (text out : List ℕ) (o : Result ℕ Refusal × List ℕ) : Type 0 where
  pub written : length text ≤ length out → (emitting.told o.0 ≡ yields (length text)) × (o.1 ≡ text ++ drop (length text) out)
  pub too_short : length out < length text → (emitting.told o.0).carried ≡ carries 10 0 0

-- a text that import accepts is what export writes of the sheet that import gave, byte for byte
abbrev pub ImportThenExport : Type 0
ImportThenExport = (text out : List ℕ) (o : Result ℕ Refusal × List ℕ) (n : ℕ) → ImportPnmlAllows text out o → emitting.told o.0 ≡ yields n
    → (out' : List ℕ) (o' : Result ℕ Refusal × List ℕ) → ExportPnmlAllows (take n o.1) out' o' → ExportAnswers text out' o'

-- "nets whose K and I are all unbounded, such as our complements": what complementing writes is never refused by 19
abbrev pub ComplementThenExport : Type 0
ComplementThenExport = (net out : List ℕ) (o : Result ℕ Refusal × List ℕ) (n : ℕ) → ComplementAllows net out o → emitting.told o.0 ≡ yields n
    → (out' : List ℕ) (o' : Result ℕ Refusal × List ℕ) → ExportPnmlAllows (take n o.1) out' o' → ExportAnswers (pnml (complement (net_of net))) out' o'
