-- The importing call: what it answers to a net's export, and what it leaves in the output slice.
-- Document 02, P5: "for import 20 at the first byte (or the end) from which no export agrees with the text, then 4 where there are more than 64 pairs or modes, then 10".
use Rattle.model.specs.declared.Refusal.{Refusal}
use Rattle.std.specs.Prelude.{ℕ, List, length, Result}
use Rattle.model.specs.Nets.{PNet}
use Rattle.sheets.specs.Emitted.{emitted, output}
use Rattle.pnml.specs.Singles.{imported_sheet, import_refusal}

-- of the export of a net
abbrev pub import_of : PNet → List ℕ → Result ℕ Refusal
import_of net out = emitted (import_refusal net (length out)) (length (imported_sheet net))

abbrev pub output_of : PNet → List ℕ → List ℕ
output_of net out = output (import_refusal net (length out)) (imported_sheet net) out
