-- The contracts of the conversions, which the source states by these names: what each allows of its answer and of the output slice.
use Rattle.model.specs.declared.Refusal.{Refusal}
use Rattle.std.specs.Prelude.{ℕ, ◌≡◌, List, Result}
use Rattle.model.specs.declared.Version.TheVariants.{One, Two}
use Rattle.convert.specs.Converted.{conversion_of, output_of}

abbrev pub ToVersion2Allows : List ℕ → List ℕ → Result ℕ Refusal × List ℕ → Type 0
ToVersion2Allows net out o = (o.0 ≡ conversion_of One Two net out) × (o.1 ≡ output_of One Two net out)

abbrev pub ToVersion1Allows : List ℕ → List ℕ → Result ℕ Refusal × List ℕ → Type 0
ToVersion1Allows net out o = (o.0 ≡ conversion_of Two One net out) × (o.1 ≡ output_of Two One net out)
