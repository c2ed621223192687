-- What a call wrote into an output slice, whatever slice it was lent: the bytes whose length an outcome that its contract allows yields.
use Rattle.model.specs.declared.Refusal.{Refusal}
use Rattle.std.specs.Prelude.{ℕ, ◌≡◌, List, length, take, Result}
use Rattle.model.specs.declared.Pair.{Pair}
use Rattle.model.specs.Replies.{Reply, yields}
use Rattle.sheets.specs.Emitted as emitting
use Rattle.complement.specs.Allowed.{ComplementAllows}
use Rattle.convert.specs.strip.Allowed.{StripAllows}
use Rattle.export.specs.Allowed.{ExportPnmlAllows}
use Rattle.import.specs.Allowed.{ImportPnmlAllows}
use Rattle.run.specs.declared.salvage.Report.{Report}
use Rattle.run.specs.salvage.Salvaged as salvaging
use Rattle.run.specs.salvage.Allowed.{SalvageAllows}

pub record CallWrote {A : Type 0} (Allows : List ℕ → A × List ℕ → Type 0) (told : A → Reply ℕ) (bytes : List ℕ) : Type 0 where
  pub out : List ℕ
  pub outcome : A × List ℕ
  pub allowed : Allows out outcome
  pub answered : told outcome.0 ≡ yields (length bytes)
  pub written : take (length bytes) outcome.1 ≡ bytes

-- of a net sheet, the sheet of its complement; and the sheet with a transition more that strips a pair bare
abbrev pub ComplementWrote : List ℕ → List ℕ → Type 0
ComplementWrote net sheet = CallWrote (ComplementAllows net) emitting.told sheet

abbrev pub StripWrote : List ℕ → Pair → List ℕ → Type 0
StripWrote net p sheet = CallWrote (StripAllows net p) emitting.told sheet

-- of a net sheet, its text in PNML; and of a text, a net sheet
abbrev pub ExportWrote : List ℕ → List ℕ → Type 0
ExportWrote net text = CallWrote (ExportPnmlAllows net) emitting.told text

abbrev pub ImportWrote : List ℕ → List ℕ → Type 0
ImportWrote text sheet = CallWrote (ImportPnmlAllows text) emitting.told sheet

-- of damaged bytes, a fresh movement sheet, and what is reported of it
pub record SalvageWrote (net damaged sheet : List ℕ) (report : Report) : Type 0 where
  pub out : List ℕ
  pub outcome : Result Report Refusal × List ℕ
  pub allowed : SalvageAllows net damaged out outcome
  pub answered : salvaging.told outcome.0 ≡ yields report
  pub written : take report.length outcome.1 ≡ sheet
