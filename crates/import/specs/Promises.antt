-- What is promised of the import. Each statement is a type; docs/ARCHITECTURE.md names the one term of proofs/ that has it.
use Rattle.model.specs.declared.Refusal.{Refusal}
use Rattle.std.specs.Prelude.{ℕ, ◌≤◌, ◌<◌, ◌≡◌, List, ◌++◌, length, drop, replicate, Result, Ok, Err}
use Rattle.model.specs.declared.Thing.TheVariants.{Net}
use Rattle.model.specs.declared.Fault.TheVariants.{NotAnExport}
use Rattle.model.specs.declared.Version.TheVariants.{One}
use Rattle.model.specs.Nets.{PNet, pairs, modes, K}
use Rattle.model.specs.Refusals.{wrong}
use Rattle.sheets.specs.written.Promises.{ReadBack}
use Rattle.pnml.specs.Pnml.{pnml, Exportable, Refused20}
use Rattle.pnml.specs.Singles.{singles, imported_sheet}
use Rattle.import.specs.Allowed.{ImportPnmlAllows}

-- "20 at the first byte (or the end) from which no export agrees with the text": there, and nowhere else
pub record RefusedExactly : Type 0 where
  pub only : (text out : List ℕ) (o : Result ℕ Refusal × List ℕ) → ImportPnmlAllows text out o → (at : ℕ) → o.0 ≡ Err (wrong Net (NotAnExport at)) → Refused20 text at
  pub all : (text out : List ℕ) (o : Result ℕ Refusal × List ℕ) → ImportPnmlAllows text out o → (at : ℕ) → Refused20 text at → o.0 ≡ Err (wrong Net (NotAnExport at))

-- "Import reads exactly what export writes", of nets of at most 64 pairs and 64 modes
pub record Small (net : PNet) : Type 0 where
  pub exportable : Exportable net
  pub pairs : pairs net ≤ 64
  pub modes : modes net ≤ 64

pub record ImportsExactly : Type 0 where
  pub only : (text out : List ℕ) (o : Result ℕ Refusal × List ℕ) → ImportPnmlAllows text out o → (n : ℕ) → o.0 ≡ Ok n
      → (net : PNet) × (Small net) × (text ≡ pnml net) × (length (imported_sheet net) ≤ length out)
  pub all : (net : PNet) → Small net → (out : List ℕ) → length (imported_sheet net) ≤ length out → (o : Result ℕ Refusal × List ℕ) → ImportPnmlAllows (pnml net) out o
      → (o.0 ≡ Ok (length (imported_sheet net))) × (o.1 ≡ imported_sheet net ++ drop (length (imported_sheet net)) out)

-- "the same pairs, modes, numbers and first marking, with each pair a place of one colour and each mode a transition of one mode"
pub record SameNumbers (net other : PNet) : Type 0 where
  pub capacities : (p : ℕ) → p < pairs net → K other p ≡ K net p
  pub start : other.start ≡ net.start
  pub arcs : other.arcs ≡ net.arcs
  pub places : other.colours ≡ replicate (pairs net) 1
  pub transitions : other.modes_of ≡ replicate (modes net) 1
  pub modes : modes other ≡ modes net
  pub pairs : pairs other ≡ pairs net

-- what is written is a sheet of version 1, read back as that net
pub record ImportedReads : Type 0 where
  pub read_back : (net : PNet) → Small net → ReadBack One (singles net)
  pub same : (net : PNet) → Exportable net → SameNumbers net (singles net)
