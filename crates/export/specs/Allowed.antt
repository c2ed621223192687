-- The contract of the exporting call, which the source states by this name: what it allows of its answer and of the output slice.
use Rattle.model.specs.declared.Refusal.{Refusal}
use Rattle.std.specs.Prelude.{ℕ, ◌≡◌, List, Result}
use Rattle.export.specs.Exports.{export_of, output_of}

abbrev pub ExportPnmlAllows : List ℕ → List ℕ → Result ℕ Refusal × List ℕ → Type 0
ExportPnmlAllows net out o = (o.0 ≡ export_of net out) × (o.1 ≡ output_of net out)
