-- What a call wrote into an output slice, whatever slice it was lent: the first n bytes of what is left, where its answer is the length n.
use Rattle.model.specs.declared.Refusal.{Refusal}
use Rattle.std.specs.Prelude.{ℕ, ◌≡◌, List, length, take, drop, Result}
use Rattle.model.specs.declared.Pair.{Pair}
use Rattle.model.specs.Replies.{yields}
use Rattle.sheets.specs.Emitted.{told}
use Rattle.complement.specs.Allowed.{ComplementAllows}
use Rattle.convert.specs.strip.Allowed.{StripAllows}
use Rattle.export.specs.Allowed.{ExportPnmlAllows}
use Rattle.import.specs.Allowed.{ImportPnmlAllows}
use Rattle.run.specs.declared.salvage.Report.{Report}
use Rattle.run.specs.salvage.Salvaged as salvaging
use Rattle.run.specs.salvage.Allowed.{SalvageAllows}

-- what is allowed of an outcome, by the output slice
abbrev pub Writing : Type 1
Writing = List ℕ → Result ℕ Refusal × List ℕ → Type 0

pub record CallWrote (Allows : Writing) (bytes : List ℕ) : Type 0 where
  pub out : List ℕ
  pub outcome : Result ℕ Refusal × List ℕ
  pub allowed : Allows out outcome
  pub answered : told outcome.0 ≡ yields (length bytes)
  pub written : take (length bytes) outcome.1 ≡ bytes

-- "The call returns the length written and touches no byte after it."
abbrev pub WritesLength : Writing → Type 0
WritesLength Allows = (out left : List ℕ) (e : Result ℕ Refusal) (n : ℕ) → Allows out (e, left) → told e ≡ yields n
    → CallWrote Allows (take n left) × (drop n left ≡ drop n out)

-- of a net sheet, the sheet of its complement; and the sheet with a transition more that strips a pair bare
abbrev pub ComplementWrote : List ℕ → List ℕ → Type 0
ComplementWrote net = CallWrote (ComplementAllows net)

abbrev pub StripWrote : List ℕ → Pair → List ℕ → Type 0
StripWrote net p = CallWrote (StripAllows net p)

-- of a net sheet, its text in PNML; and of a text, a net sheet
abbrev pub ExportWrote : List ℕ → List ℕ → Type 0
ExportWrote net = CallWrote (ExportPnmlAllows net)

abbrev pub ImportWrote : List ℕ → List ℕ → Type 0
ImportWrote text = CallWrote (ImportPnmlAllows text)

-- of damaged bytes, a fresh movement sheet, and what is reported of it
pub record SalvageWrote (net damaged sheet : List ℕ) (report : Report) : Type 0 where
  pub out : List ℕ
  pub outcome : Result Report Refusal × List ℕ
  pub allowed : SalvageAllows net damaged out outcome
  pub answered : salvaging.told outcome.0 ≡ yields report
  pub written : take report.length outcome.1 ≡ sheet
