-- The contract of the importing call, which the source states by this name: what it allows of its answer and of the output slice.
use Rattle.model.specs.declared.Refusal.{Refusal}
use Rattle.std.specs.Prelude.{ℕ, ◌≡◌, List, ◌⊎◌, Result, Err}
use Rattle.model.specs.declared.Thing.TheVariants.{Net}
use Rattle.model.specs.declared.Fault.TheVariants.{NotAnExport}
use Rattle.model.specs.Nets.{PNet}
use Rattle.model.specs.Refusals.{wrong}
use Rattle.pnml.specs.Pnml.{pnml, Exportable, Refused20}
use Rattle.import.specs.Imports.{import_of, output_of}

-- the text is an export, and whatever net's it is, the answer and the output are of that net
pub record OfExport (text out : List ℕ) (o : Result ℕ Refusal × List ℕ) : Type 0 where
  pub net : PNet
  pub exportable : Exportable net
  pub is : text ≡ pnml net
  pub each : (net : PNet) → Exportable net → text ≡ pnml net → (o.0 ≡ import_of net out) × (o.1 ≡ output_of net out)

-- it is none: 20, and nothing is written
pub record OfNone (text out : List ℕ) (o : Result ℕ Refusal × List ℕ) : Type 0 where
  pub at : ℕ
  pub refused : Refused20 text at
  pub answer : o.0 ≡ Err (wrong Net (NotAnExport at))
  pub kept : o.1 ≡ out

abbrev pub ImportPnmlAllows : List ℕ → List ℕ → Result ℕ Refusal × List ℕ → Type 0
ImportPnmlAllows text out o = OfExport text out o ⊎ OfNone text out o
