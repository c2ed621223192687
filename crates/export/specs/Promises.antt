-- What is promised of the export. Each statement is a type; docs/ARCHITECTURE.md names the one term of proofs/ that has it.
use Rattle.std.specs.Prelude.{ℕ, ◌≡◌, List}
use Rattle.std.proofs.Math.Option.{none}
use Rattle.model.specs.Nets.{PNet}
use Rattle.model.specs.WellFormed.{WellFormed}
use Rattle.second_form.specs.Complement.{complement}
use Rattle.sheets.specs.Whole.{whole_net}
use Rattle.sheets.specs.Decoded.{net_of}
use Rattle.pnml.specs.Pnml.{Exportable}
use Rattle.export.specs.Exports.{refusal19}

-- "export .. for nets whose K and I are all unbounded": of the net sheets that are accepted, 19 refuses all others
pub record ExportsExactly : Type 0 where
  pub only : (s : List ℕ) → whole_net s ≡ none → refusal19 s ≡ none → Exportable (net_of s)
  pub all : (s : List ℕ) → Exportable (net_of s) → refusal19 s ≡ none

-- "such as our complements"
abbrev pub ComplementsExportable : Type 0
ComplementsExportable = (net : PNet) → WellFormed (complement net) → Exportable (complement net)
