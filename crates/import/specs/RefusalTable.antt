-- The refusal table of the import: "20 at the first byte (or the end) from which no export agrees with the text, then 4 where there are more than 64 pairs or modes,
-- then 10". Its one term is `import_table_lem` of proofs/RefusalTable.antt.
use Rattle.model.specs.declared.Refusal.{Refusal}
use Rattle.std.specs.Prelude.{ℕ, ◌+◌, ◌<◌, ◌≡◌, List, ◌⊎◌, length, Result}
use Rattle.model.specs.Nets.{PNet, pairs, modes}
use Rattle.model.specs.Refusals.{carries}
use Rattle.model.specs.RefusalTables.{Table, row, ◌then◌, each, Reads}
use Rattle.sheets.specs.Emitted.{refusal_of}
use Rattle.pnml.specs.Pnml.{pnml, Exportable, Refused20}
use Rattle.pnml.specs.Singles.{imported_sheet}
use Rattle.import.specs.Allowed.{ImportPnmlAllows}

-- the text is the export of such a net
abbrev pub ExportOfSome : List ℕ → (PNet → Type 0) → Type 0
ExportOfSome text Such = (net : PNet) × (Exportable net) × (text ≡ pnml net) × (Such net)

abbrev pub import_table : List ℕ → ℕ → Table
import_table text room =
    each (length text + 1) (λ n. row (Refused20 text n) (carries 20 0 n))
    then row (ExportOfSome text (λ net. (64 < pairs net) ⊎ (64 < modes net))) (carries 4 3 0)
    then row (ExportOfSome text (λ net. room < length (imported_sheet net))) (carries 10 0 0)

abbrev pub ImportTable : Type 0
ImportTable = (text out : List ℕ) (o : Result ℕ Refusal × List ℕ) → ImportPnmlAllows text out o → Reads (import_table text (length out)) (refusal_of o.0)
