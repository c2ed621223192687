-- The sum does not wrap.
use Prim.Native.Nat.{◌≤◌}
use lib.IntN.{ℤ, nat_abs, ◌+ℤ◌}
use mir.Syntax.{w64}
use mir.Val.{SFits}
use mir.Facts.{to_z-of_z}
use native.Mathlib.Omega.{arith}
use Rattle.movement.proofs.Integers.{size_add}
use Rattle.ships.specs.Entered.{Figure}
use Rattle.statement.specs.fleet.Parts.{heaviest}
use Rattle.statement.proofs.weigh.Sizes.{fits-size}
use Rattle.statement.proofs.fleet.Entering.{figure-size}
use Rattle.statement.proofs.fleet.entry.add_figure.Goals as goal

sum_fits : (a b : ℤ) → Figure a → nat_abs b ≤ heaviest → SFits w64 (a +ℤ b)
sum_fits a b figure light = fits-size w64 (a +ℤ b) (omega (arith, size_add a b, figure-size figure, light))

pub overflow_add-result : goal.overflow_add-result
overflow_add-result c = rw (to_z-of_z c.ranges.figure, to_z-of_z c.ranges.more) (sum_fits _ _ c.requires.figure c.requires.more_bound)

pub returns : goal.returns
returns c = rw (to_z-of_z c.ranges.figure, to_z-of_z c.ranges.more) (to_z-of_z (sum_fits _ _ c.requires.figure c.requires.more_bound))
