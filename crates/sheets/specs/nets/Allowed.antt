-- The contract of the net sheet's reader, which the source states by this name.
use Rattle.std.specs.Prelude.{ℕ, ◌≡◌, List}
use Rattle.model.specs.Refusals.{Answer}
use Rattle.model.specs.Refusals.{answer}
use Rattle.sheets.specs.nets.Nets.{net_refusal}

abbrev pub ReadNetAllows : List ℕ → Answer → Type 0
ReadNetAllows s told = told ≡ answer (net_refusal s)
