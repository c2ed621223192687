-- The bytes that stand there are those of both versions.
use mathlib.Core.Path.{sym, ◌∙◌, ap}
use native.Mathlib.Omega.{arith}
use Rattle.sheets.proofs.nets.Valid.{headed}
use Rattle.opened.proofs.Shapes.{sizes}
use Rattle.sheets.specs.written.Puts.{part_of}
use Rattle.sheets.proofs.written.Puts.{room_as, puts_as}
use Rattle.convert.proofs.Parts.{common_size, common_there, common_is}
use Rattle.convert.proofs.sheet.put_common.Goals as goal

pub put_part-requires : goal.put_part-requires
put_part-requires c = let fields = c.fields_at.ensures in
    let part = ap (λ k. part_of c.args.net.now.sheet.now k (common_size c.args.net.now.is_open)) fields.0 ∙ common_is c.args.net.now.is_open c.args.net.now.are_bytes in record { n_in_bounds = omega (arith, fields.0, common_there c.args.net.now.is_open); room = room_as (sym part) c.requires.room }

pub returns : goal.returns
returns c =
    let fields = c.fields_at.ensures in
    let part = ap (λ k. part_of c.args.net.now.sheet.now k (common_size c.args.net.now.is_open)) fields.0 ∙ common_is c.args.net.now.is_open c.args.net.now.are_bytes in
    puts_as part c.put_part.ensures

pub overflow_mul-size : goal.overflow_mul-size
overflow_mul-size c = let z = sizes c.args.net.now.is_open in omega (arith, z.places, z.transitions, z.well_formed.places.many, z.well_formed.transitions.many, z.pairs_within)

pub overflow_add-size : goal.overflow_add-size
overflow_add-size c = let z = sizes c.args.net.now.is_open in omega (arith, z.places, z.transitions, z.well_formed.places.many, z.well_formed.transitions.many, z.pairs_within)

pub overflow_mul-size-2 : goal.overflow_mul-size-2
overflow_mul-size-2 c = let z = sizes c.args.net.now.is_open in omega (arith, z.places, z.transitions, z.well_formed.places.many, z.well_formed.transitions.many, z.pairs_within)

pub overflow_add-size-2 : goal.overflow_add-size-2
overflow_add-size-2 c = let z = sizes c.args.net.now.is_open in omega (arith, z.places, z.transitions, z.well_formed.places.many, z.well_formed.transitions.many, z.pairs_within)

pub overflow_mul-size-3 : goal.overflow_mul-size-3
overflow_mul-size-3 c = let z = sizes c.args.net.now.is_open in omega (arith, z.places, z.transitions, z.well_formed.places.many, z.well_formed.transitions.many, z.pairs_within)

pub overflow_add-size-3 : goal.overflow_add-size-3
overflow_add-size-3 c = let z = sizes c.args.net.now.is_open in omega (arith, z.places, z.transitions, z.well_formed.places.many, z.well_formed.transitions.many, z.pairs_within)

pub fields_at-requires : goal.fields_at-requires
fields_at-requires c = headed _ c.args.net.now.is_open.accepted

pub shape_of-out : goal.shape_of-out
shape_of-out c = (returns c).kept
