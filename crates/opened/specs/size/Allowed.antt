-- The contract of the public call, which the source states by this name.
use Rattle.model.specs.declared.Refusal.{Refusal}
use Rattle.opened.specs.declared.size.NetSize.{NetSize}
use Rattle.std.specs.Prelude.{ℕ, ◌≡◌, List, Result}
use Rattle.opened.specs.size.Sizes.{measured_of}

abbrev pub SizeAllows : List ℕ → Result NetSize Refusal → Type 0
SizeAllows net told = told ≡ measured_of net
