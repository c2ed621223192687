-- The number of the arc that was read.
use native.Mathlib.Omega.{arith}
use Rattle.numbers.proofs.ByNumbers.{number_is}
use Rattle.numbers.proofs.arc_number.Goals as goal

pub room_at-requires : goal.room_at-requires
room_at-requires c = record { pair_lt_pairs = (c.arc-arc.ensures.pair, omega (arith, c.arc-arc.ensures.pre)) }

pub returns : goal.returns
returns c = number_is _ c.arc-arc.ensures c.room_at.ensures c.pass_below.ensures
