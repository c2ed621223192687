-- The originals, and one for each pair of finite K.
use native.Mathlib.Omega.{arith}
use Rattle.opened.proofs.Shapes.{sizes}
use Rattle.halves.proofs.Below.{entry-few, entries_rise, pair-count}
use Rattle.complement.proofs.audit.refusals.pairs_beside.Goals as goal

pub bounded_between-requires : goal.bounded_between-requires
bounded_between-requires c =
    let b = c.args.bounded.now in
    let z = sizes b.net.now.is_open in
    let pairs = b.net.now.shape.pairs in
    let last = entry-few b.net.now.is_open b.below_are pairs (omega arith) in
    (omega arith, omega (arith, z.pairs_within), entries_rise b.net.now.is_open b.below_are 0 pairs (omega arith) (omega arith), omega (arith, z.pairs_within))

pub overflow_add-result : goal.overflow_add-result
overflow_add-result c =
    let b = c.args.bounded.now in
    record { fits = omega (arith, (sizes b.net.now.is_open).pairs_within, c.bounded_between.ensures, entry-few b.net.now.is_open b.below_are b.net.now.shape.pairs (omega arith)) }

pub returns : goal.returns
returns c = let b = c.args.bounded.now in pair-count b.net.now.is_open b.below_are c.bounded_between.ensures
