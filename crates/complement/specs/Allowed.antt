-- The contract of the complementing call, which the source states by this name: what it allows of its answer and of the output slice.
use Rattle.model.specs.declared.Refusal.{Refusal}
use Rattle.std.specs.Prelude.{ℕ, ◌≡◌, List, Result}
use Rattle.complement.specs.Complemented.{complement_of, output_of}

abbrev pub ComplementAllows : List ℕ → List ℕ → Result ℕ Refusal × List ℕ → Type 0
ComplementAllows net out o = (o.0 ≡ complement_of net out) × (o.1 ≡ output_of net out)
