-- The number that means unbounded does.
use Rattle.fields.specs.Numbers.{bound}
use mathlib.Core.Path.{refl}
use Rattle.complement.proofs.sections.entry.original_arc.Goals as goal

pub returns : goal.returns
unfolding bound
returns c = refl
