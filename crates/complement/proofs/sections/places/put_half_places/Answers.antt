use mathlib.Core.Path.{refl, sym, ap}
use mathlib.Core.List.{flat_map}
use native.Mathlib.Omega.{arith}
use native.Mathlib.Numerals.{add-one}
use Rattle.sheets.specs.Decoded.{net_of}
use Rattle.sheets.specs.written.Written.{bytes16}
use Rattle.opened.proofs.Shapes.{sizes}
use Rattle.complement.specs.sections.Places.{place_bytes}
use Rattle.complement.proofs.sections.PlaceHalves.{half_place_lem, next-first}
use Rattle.sheets.proofs.written.Puts.{room_as, puts_as, puts_none, room-more, puts-more, puts-end}
use Rattle.complement.proofs.sections.places.put_half_places.Goals as goal

pub loop-place-init : goal.loop-place-init
loop-place-init c = (refl, puts_none _)

pub overflow_add-end : goal.overflow_add-end
overflow_add-end c =
    let l = c.loop-place in
    let o = c.args.bounded.now.net.now.is_open in
    let z = sizes o in
    let next = next-first o l.place c.loop-place-test.true l.invariant.0 c.colours_of.ensures.0 in
    omega (arith, z.pairs_within)

pub half_colours-requires : goal.half_colours-requires
half_colours-requires c = let l = c.loop-place in
    let pre = c.requires in
    let next = next-first c.args.bounded.now.net.now.is_open l.place c.loop-place-test.true l.invariant.0 c.colours_of.ensures.0 in record { first_le_end = (omega arith, next.1) }

pub put_place-next-requires : goal.put_place-next-requires
put_place-next-requires c = let l = c.loop-place in
    let pre = c.requires in
    let next = next-first c.args.bounded.now.net.now.is_open l.place c.loop-place-test.true l.invariant.0 c.colours_of.ensures.0 in
    let a = c.args in
    let is = half_place_lem (net_of a.bounded.now.net.now.sheet.now) a.half l.place l.invariant.0 next.0 c.half_colours.ensures.0 in record { colours_bound = c.half_colours.ensures.1; room = room_as (ap (flat_map bytes16) (sym is)) (room-more (place_bytes (net_of a.bounded.now.net.now.sheet.now) a.half) l.place l.invariant.1 _ pre.room c.loop-place-test.true) }

pub loop-place-preserved : goal.loop-place-preserved
loop-place-preserved c =
    let l = c.loop-place in
    let next = next-first c.args.bounded.now.net.now.is_open l.place c.loop-place-test.true l.invariant.0 c.colours_of.ensures.0 in
    let a = c.args in
    let is = half_place_lem (net_of a.bounded.now.net.now.sheet.now) a.half l.place l.invariant.0 next.0 c.half_colours.ensures.0 in
    (rw add-one next.0, puts-more (place_bytes (net_of a.bounded.now.net.now.sheet.now) a.half) l.place l.invariant.1 (puts_as (ap (flat_map bytes16) is) c.put_place-next.ensures))

pub returns : goal.returns
returns c = let l = c.loop-place in puts-end _ l.place l.invariant.1 _ l.auto.place-end c.loop-place-test.false
