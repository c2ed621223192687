-- The pair, its K, then the room.
use mathlib.Core.Path.{sym, ◌∙◌, ap}
use native.Mathlib.Omega.{arith}
use Rattle.second_form.specs.Complement.{finite}
use Rattle.opened.proofs.Shapes.{sizes}
use Rattle.convert.proofs.strip.Answers.{absent-pair, unbounded-pair, room-refusal}
use Rattle.convert.proofs.strip.room.strip_answer.Goals as goal

pub returns-then-net-pair : goal.returns-then-net-pair
returns-then-net-pair c = absent-pair c.args.net.now.is_open c.args.pair c.args.room c.if-net-pair.true c.refused.ensures

pub returns-then-not-is_finite : goal.returns-then-not-is_finite
returns-then-not-is_finite c =
    let infinite = ap finite (sym c.capacity-k.ensures) ∙ sym c.is_finite.ensures ∙ c.if-not-is_finite.true in
    unbounded-pair c.args.net.now.is_open c.args.pair c.args.room c.if-net-pair.false infinite c.refused-then-not-is_finite.ensures

pub room_answer-requires : goal.room_answer-requires
room_answer-requires c = let z = sizes c.args.net.now.is_open in record { places_bound = (omega (arith, z.places, z.well_formed.places.many), z.pairs_within); transitions_bound = (omega (arith, z.transitions, z.well_formed.transitions.many), z.modes_within, z.arcs_within) }

pub returns : goal.returns
returns c =
    let number = ap finite (sym c.capacity-k.ensures) ∙ sym c.is_finite.ensures ∙ c.if-not-is_finite.false in
    room-refusal c.args.net.now.is_open c.args.pair c.args.room c.if-net-pair.false _ c.capacity-k.ensures number c.room_answer.ensures
