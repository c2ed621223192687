-- The opening and the closing text, the places, and the modes with their arcs.
use native.Mathlib.Omega.{arith}
use Rattle.opened.proofs.Shapes.{sizes}
use Rattle.export.proofs.texts.Texts.{text-long}
use Rattle.export.proofs.texts.lengths.text_length.Goals as goal

pub overflow_add-result-2 : goal.overflow_add-result-2
overflow_add-result-2 c =
    let z = sizes c.args.net.now.is_open in
    omega (arith, c.places_length.ensures.1, c.modes_length.ensures.1, z.pairs_within, z.modes_within)

pub returns : goal.returns
returns c = text-long c.args.net.now.is_open c.places_length.ensures.0 c.modes_length.ensures.0

pub overflow_add-result : goal.overflow_add-result
overflow_add-result c = omega (arith, c.places_length.ensures.1, (sizes c.args.net.now.is_open).pairs_within)
