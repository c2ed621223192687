-- The total of the colours.
use native.Mathlib.Omega.{arith}
use Rattle.heads.specs.Layout.{pair_count}
use Rattle.sheets.proofs.nets.net.pair_count.Goals as goal

pub total_of-requires : goal.total_of-requires
total_of-requires c =
    let pre = c.requires in
    let at = c.fields_at-at.ensures in
    let places = rw at.0 at c.count_at.ensures.0 in
    omega (arith, at, places, pre.there, pre.sized.places, pre.sized.head.there)

pub returns : goal.returns
unfolding pair_count
returns c = let at = c.fields_at-at.ensures.0 in rw (at, rw at at c.count_at.ensures.0) at c.total_of.ensures
