-- The pairs of the place are there.
use Prim.Native.Nat.{◌-◌}
use mathlib.Core.Path.{refl, ◌∙◌, ap₂}
use native.Mathlib.Omega.{arith}
use Rattle.opened.proofs.Shapes.{sizes}
use Rattle.halves.proofs.Below.{entry-is, entry-few, entries_rise}
use Rattle.complement.proofs.sections.places.half_colours.Goals as goal

pub bounded_between-requires : goal.bounded_between-requires
bounded_between-requires c =
    let pre = c.requires in
    let a = c.args in
    let b = a.bounded.now in
    let z = sizes b.net.now.is_open in
    let few = z.well_formed.places.in_total in
    let last = entry-few b.net.now.is_open b.below_are a.end pre.first_le_end.1 in
    (omega (arith, z.pairs), omega (arith, z.pairs), entries_rise b.net.now.is_open b.below_are a.first a.end pre.first_le_end.0 pre.first_le_end.1, omega (arith, z.pairs))

pub returns-in-Original : goal.returns-in-Original
returns-in-Original c =
    let z = sizes c.args.bounded.now.net.now.is_open in
    (rw c.in-Original.is refl, omega (arith, z.pairs_within))

pub returns-in-Complement : goal.returns-in-Complement
returns-in-Complement c =
    let pre = c.requires in
    let a = c.args in
    let b = a.bounded.now in
    let z = sizes b.net.now.is_open in
    let last = entry-is b.net.now.is_open b.below_are a.end pre.first_le_end.1 in
    let first = entry-is b.net.now.is_open b.below_are a.first (omega arith) in
    let few = entry-few b.net.now.is_open b.below_are a.end pre.first_le_end.1 in (
      rw c.in-Complement.is (c.bounded_between.ensures ∙ ap₂ ◌-◌ last first),
      omega (arith, c.bounded_between.ensures, few, z.pairs_within),
    )
