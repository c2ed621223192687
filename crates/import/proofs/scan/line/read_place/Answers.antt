-- The number of the pair, and its count.
use mathlib.Core.Path.{refl}
use Rattle.import.specs.scan.Kinds.{place_tail}
use Rattle.grammar.proofs.parts.Literals.{◌and◌}
use Rattle.import.proofs.scan.line.read_place.Goals as goal

pub returns : goal.returns
returns c = c.read_valued.ensures _ _ place_tail refl (c.then_three-number.ensures.how c.requires.0 and c.then_bytes-before.ensures)
