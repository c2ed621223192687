-- The stripping call: what it answers, and what it leaves in the output slice.
-- "Refusals, in order: the net's, 6 for the pair, 15 for unbounded K, 10 where K is above 63, another limit is passed or the output is short."
use Rattle.std.specs.Prelude.{ℕ, List, length, Result}
use Rattle.std.proofs.Math.Option.{Option}
use Rattle.model.specs.declared.Pair.{Pair}
use Rattle.model.specs.declared.Refusal.{Refusal}
use Rattle.model.specs.First.{◌▸◌}
use Rattle.model.specs.Nets.{PNet, K}
use Rattle.heads.specs.Version.{version_of}
use Rattle.sheets.specs.Whole.{whole_net}
use Rattle.sheets.specs.Decoded.{net_of}
use Rattle.sheets.specs.written.Written.{sheet_of}
use Rattle.sheets.specs.Emitted.{emitted, output, too_short}
use Rattle.bare.specs.Strip.{strip, bound_of, strip_refusal}

-- the net that is to be written, and its sheet: "Every other call .. writes the version and rule it was given" (document 02, P9)
abbrev pub stripped_net : List ℕ → Pair → PNet
stripped_net net p = strip (net_of net) p (bound_of (K (net_of net) p.0))

abbrev pub stripped_sheet : List ℕ → Pair → List ℕ
stripped_sheet net p = sheet_of (version_of net) (stripped_net net p)

-- what is refused of an accepted net, where the output slice has this room
unfoldable pub room_refusal : List ℕ → Pair → ℕ → Option Refusal
room_refusal net p room = strip_refusal (net_of net) p ▸ too_short (stripped_sheet net p) room

unfoldable pub stripping_refusal : List ℕ → Pair → ℕ → Option Refusal
stripping_refusal net p room = whole_net net ▸ room_refusal net p room

module _ (net : List ℕ) (p : Pair) (out : List ℕ) where
  abbrev pub stripped_of : Result ℕ Refusal
  stripped_of = emitted (stripping_refusal net p (length out)) (length (stripped_sheet net p))

  abbrev pub output_of : List ℕ
  output_of = output (stripping_refusal net p (length out)) (stripped_sheet net p) out
