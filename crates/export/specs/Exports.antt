-- The exporting call: what it answers, and what it leaves in the output slice.
-- Document 02, P5: "Refusals: for export the net's, 19 at the first finite K or I, 10 for a short output".
use Rattle.std.specs.Prelude.{ℕ, List, length, Result}
use Rattle.std.proofs.Math.Option.{Option}
use Rattle.model.specs.declared.Thing.TheVariants.{Net}
use Rattle.model.specs.declared.Fault.TheVariants.{NotUnbounded}
use Rattle.model.specs.declared.Refusal.{Refusal}
use Rattle.model.specs.First.{◌▸◌, lowest}
use Rattle.model.specs.Nets.{PNet, pairs, K, arc_no}
use Rattle.second_form.specs.Complement.{finite}
use Rattle.model.specs.Refusals.{wrong}
use Rattle.heads.specs.Layout.{pairs_offset, pair_at, capacity_at}
use Rattle.sheets.specs.Whole.{whole_net}
use Rattle.sheets.specs.Decoded.{net_of}
use Rattle.sheets.specs.Emitted.{emitted, output, too_short}
use Rattle.opened.specs.Shape.{inhibitor_offset}
use Rattle.pnml.specs.Pnml.{pnml}

-- "19 at the first finite K or I": of all K, and then of the arcs' I as they stand. `capacity p` and `inhibitor k` are where these fields stand in the sheet.
unfoldable pub bounded_capacity : (ℕ → ℕ) → PNet → Option Refusal
bounded_capacity capacity net = lowest (pairs net) (λ p. finite (K net p)) (λ p. wrong Net (NotUnbounded (capacity p)))

unfoldable pub bounded_inhibitor : (ℕ → ℕ) → PNet → Option Refusal
bounded_inhibitor inhibitor net =
    lowest (length net.arcs) (λ k. finite (arc_no net.arcs k).entry.inhibitor) (λ k. wrong Net (NotUnbounded (inhibitor k)))

abbrev pub capacity_offset : List ℕ → ℕ → ℕ
capacity_offset net p = capacity_at (pair_at (pairs_offset net) p)

unfoldable pub refusal19 : List ℕ → Option Refusal
refusal19 net = bounded_capacity (capacity_offset net) (net_of net) ▸ bounded_inhibitor (inhibitor_offset net) (net_of net)

-- the text that is to be written
abbrev pub export_text : List ℕ → List ℕ
export_text net = pnml (net_of net)

-- what is refused of an accepted net, where the output slice has this room
unfoldable pub room_refusal : List ℕ → ℕ → Option Refusal
room_refusal net room = refusal19 net ▸ too_short (export_text net) room

unfoldable pub export_refusal : List ℕ → ℕ → Option Refusal
export_refusal net room = whole_net net ▸ room_refusal net room

abbrev pub export_of : List ℕ → List ℕ → Result ℕ Refusal
export_of net out = emitted (export_refusal net (length out)) (length (export_text net))

abbrev pub output_of : List ℕ → List ℕ → List ℕ
output_of net out = output (export_refusal net (length out)) (export_text net) out
