-- The complementing call: what it answers, and what it leaves in the output slice.
-- "Complementing: net, 15, 16, 10, each at its first arc in order."; 16 "no longer occurs".
use Rattle.std.specs.Prelude.{ℕ, List, length, Result}
use Rattle.std.proofs.Math.Option.{Option}
use Rattle.model.specs.declared.Refusal.{Refusal}
use Rattle.model.specs.First.{◌▸◌}
use Rattle.second_form.specs.Complement.{complement, complement_refusal}
use Rattle.heads.specs.Version.{version_of}
use Rattle.sheets.specs.Whole.{whole_net}
use Rattle.sheets.specs.Decoded.{net_of}
use Rattle.opened.specs.Shape.{arc_offset}
use Rattle.sheets.specs.written.Written.{sheet_of}
use Rattle.sheets.specs.Emitted.{emitted, output, too_short}

-- the sheet that is to be written: "Every other call .. writes the version and rule it was given" (document 02, P9)
abbrev pub complement_sheet : List ℕ → List ℕ
complement_sheet net = sheet_of (version_of net) (complement (net_of net))

-- what is refused of an accepted net, where the output slice has this room
unfoldable pub room_refusal : List ℕ → ℕ → Option Refusal
room_refusal net room = complement_refusal (arc_offset net) (net_of net) ▸ too_short (complement_sheet net) room

unfoldable pub complementing_refusal : List ℕ → ℕ → Option Refusal
complementing_refusal net room = whole_net net ▸ room_refusal net room

abbrev pub complement_of : List ℕ → List ℕ → Result ℕ Refusal
complement_of net out = emitted (complementing_refusal net (length out)) (length (complement_sheet net))

abbrev pub output_of : List ℕ → List ℕ → List ℕ
output_of net out = output (complementing_refusal net (length out)) (complement_sheet net) out
