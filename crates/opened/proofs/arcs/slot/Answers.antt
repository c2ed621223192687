-- The arc is one of the net's.
use mathlib.Core.Path.{refl}
use native.Mathlib.Omega.{arith}
use Rattle.opened.proofs.Shapes.{sizes}
use Rattle.opened.proofs.arcs.slot.Goals as goal

pub overflow_add-result : goal.overflow_add-result
overflow_add-result c = let z = sizes c.args.net.now.is_open in omega (arith, c.requires.own_arc.own.fits)

pub returns : goal.returns
returns c = let z = sizes c.args.net.now.is_open in (refl, omega (arith, c.requires.own_arc.own.fits))
