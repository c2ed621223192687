use native.Mathlib.Omega.{arith}
use Rattle.pnml.specs.Pnml.{opening}
use Rattle.import.proofs.Loops.{places-start, place_ready, places-more, places-end, line-farther}
use Rattle.import.proofs.places.put_places.Goals as goal

pub loop-after-init : goal.loop-after-init
unfolding opening
loop-after-init c = places-start _ _ c.requires.export_of

pub write_place-requires : goal.write_place-requires
write_place-requires c = let pre = c.requires in place_ready c.loop-after.invariant pre.export_of pre.places_in_bounds

pub loop-after-smaller : goal.loop-after-smaller
loop-after-smaller c = let x = line-farther c.in-Some.ensures.how.stands in omega (arith, x.0, x.1)

pub loop-after-preserved : goal.loop-after-preserved
loop-after-preserved c = places-more c.loop-after.invariant c.in-Some.ensures.how

pub returns : goal.returns
returns c = places-end c.loop-after.invariant c.requires.export_of c.in_default.ensures.how
