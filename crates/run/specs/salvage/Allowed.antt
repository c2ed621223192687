-- The contract of the public call, which the source states by this name: what it allows of the answer, and of what the output slice holds after.
use Rattle.model.specs.declared.Refusal.{Refusal}
use Rattle.std.specs.Prelude.{ℕ, ◌≡◌, List, Result}
use Rattle.run.specs.declared.salvage.Report.{Report}
use Rattle.run.specs.salvage.Salvaged.{salvage_of, output_of}

abbrev pub SalvageAllows : List ℕ → List ℕ → List ℕ → Result Report Refusal × List ℕ → Type 0
SalvageAllows net damaged out o = (o.0 ≡ salvage_of net damaged out) × (o.1 ≡ output_of net damaged out)
