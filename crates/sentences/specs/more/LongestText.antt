-- `PNET_LARGEST_PNML`: a slice of 467,928 bytes holds the text in PNML of every net that can be exported, and one has so many.
use Rattle.std.specs.Prelude.{◌≤◌, ◌≡◌, length}
use Rattle.model.specs.Nets.{PNet}
use Rattle.pnml.specs.Pnml.{pnml, Exportable}

pub record LongestText : Type 0 where
  pub most : (net : PNet) → Exportable net → length (pnml net) ≤ 467928
  pub reached : (net : PNet) × Exportable net × (length (pnml net) ≡ 467928)
