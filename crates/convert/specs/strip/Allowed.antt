-- The contract of the stripping call, which the source states by this name: what it allows of its answer and of the output slice.
use Rattle.model.specs.declared.Refusal.{Refusal}
use Rattle.std.specs.Prelude.{ℕ, ◌≡◌, List, Result}
use Rattle.model.specs.declared.Pair.{Pair}
use Rattle.convert.specs.strip.Stripped.{stripped_of, output_of}

abbrev pub StripAllows : List ℕ → Pair → List ℕ → Result ℕ Refusal × List ℕ → Type 0
StripAllows net p out o = (o.0 ≡ stripped_of net p out) × (o.1 ≡ output_of net p out)
