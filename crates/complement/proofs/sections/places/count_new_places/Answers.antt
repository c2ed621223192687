use borrow.Author.Rules.{rules}
use mathlib.Core.Path.{◌≡◌, refl, ◌∙◌, ap}
use lib.ListN.{length}
use native.Mathlib.Omega.{arith}
use native.Mathlib.Numerals.{add-one}
use Rattle.sheets.specs.Decoded.{net_of}
use Rattle.opened.proofs.Shapes.{sizes}
use Rattle.halves.specs.declared.half.Half.TheVariants.{Complement}
use Rattle.complement.specs.sections.Places.{half_place}
use Rattle.complement.proofs.sections.Counts.{count_none, count-more}
use Rattle.complement.proofs.sections.PlaceHalves.{half_place_lem, next-first}
use Rattle.complement.proofs.sections.places.count_new_places.Goals as goal

pub loop-place-init : goal.loop-place-init
loop-place-init c = (refl, count_none _, search rules)

pub overflow_add-end : goal.overflow_add-end
overflow_add-end c =
    let l = c.loop-place in
    let o = c.args.bounded.now.net.now.is_open in
    let z = sizes o in
    let next = next-first o l.place c.loop-place-test.true l.invariant.0 c.colours_of.ensures.0 in
    omega (arith, z.pairs_within)

pub half_colours-requires : goal.half_colours-requires
half_colours-requires c = let l = c.loop-place in
    let pre = c.requires in
    let next = next-first c.args.bounded.now.net.now.is_open l.place c.loop-place-test.true l.invariant.0 c.colours_of.ensures.0 in record { first_le_end = (omega arith, next.1) }

pub loop-place-preserved : goal.loop-place-preserved
loop-place-preserved c =
    let l = c.loop-place in
    let o = c.args.bounded.now.net.now.is_open in
    let net = net_of c.args.bounded.now.net.now.sheet.now in
    let next = next-first o l.place c.loop-place-test.true l.invariant.0 c.colours_of.ensures.0 in
    let one = c.count_place-count.ensures.0 ∙ ap length (half_place_lem net Complement l.place l.invariant.0 next.0 c.half_colours.ensures.0) in
    (rw add-one next.0, count-more (half_place net Complement) l.place l.invariant.1 one, search rules)

pub returns : goal.returns
returns c =
    let l = c.loop-place in
    let z = sizes c.args.bounded.now.net.now.is_open in
    let e : l.place ≡ c.args.bounded.now.net.now.shape.places = omega arith in
    (rw e at l.invariant.1, omega (arith, z.places, z.well_formed.places.many))
