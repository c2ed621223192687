-- The originals and what is new.
use mathlib.Core.Path.{refl}
use native.Mathlib.Omega.{arith}
use Rattle.opened.proofs.Shapes.{sizes}
use Rattle.halves.proofs.Below.{entry-few, entries_rise, pair-count}
use Rattle.complement.proofs.sections.PlaceHalves.{place-count}
use Rattle.complement.proofs.sheet.complement_sizes.Goals as goal

pub overflow_add-result : goal.overflow_add-result
overflow_add-result c = let z = sizes c.args.bounded.now.net.now.is_open in omega (arith, z.places, z.well_formed.places.many)

pub bounded_between-requires : goal.bounded_between-requires
bounded_between-requires c =
    let b = c.args.bounded.now in
    let z = sizes b.net.now.is_open in
    let pairs = b.net.now.shape.pairs in
    let few = z.well_formed.places.in_total in
    let last = entry-few b.net.now.is_open b.below_are pairs (omega arith) in
    (omega arith, omega (arith, z.pairs), entries_rise b.net.now.is_open b.below_are 0 pairs (omega arith) (omega arith), omega (arith, z.pairs))

pub overflow_add-result-2 : goal.overflow_add-result-2
overflow_add-result-2 c =
    let b = c.args.bounded.now in
    let z = sizes b.net.now.is_open in
    omega (arith, z.pairs_within, c.bounded_between.ensures, entry-few b.net.now.is_open b.below_are b.net.now.shape.pairs (omega arith))

pub returns : goal.returns
returns c =
    let b = c.args.bounded.now in
    let z = sizes b.net.now.is_open in
    let places = c.count_new_places.ensures in
    let new = c.bounded_between.ensures in
    let last = entry-few b.net.now.is_open b.below_are b.net.now.shape.pairs (omega arith) in (
      record { places = omega (arith, place-count b.net.now.is_open, places.0); pairs = pair-count b.net.now.is_open b.below_are new; arcs = refl },
      record {
        places = omega (arith, z.places, z.well_formed.places.many, places.1);
        pairs = omega (arith, z.pairs_within, new, last);
        arcs = c.requires.arcs_bound;
      },
    )
