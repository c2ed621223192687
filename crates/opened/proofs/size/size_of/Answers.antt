-- The shape of an open net says how large the net is.
use Rattle.opened.proofs.Shapes.{sizes}
use Rattle.opened.proofs.size.size_of.Goals as goal

pub returns : goal.returns
returns c = let z = sizes c.args.net.now.is_open in rw (z.pairs, z.modes, z.arcs)
