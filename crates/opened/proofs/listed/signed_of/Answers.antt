-- A number of 2^31 or more stands for itself less 2^32.
use mathlib.Core.Path.{refl}
use mir.Facts.{to_z-of_z}
use Rattle.sheets.specs.lists.Weights.{signed}
use Rattle.opened.proofs.TwosComplement.{less, less_fits32, less_fits64}
use Rattle.opened.proofs.listed.signed_of.Goals as goal

pub overflow_sub-result : goal.overflow_sub-result
overflow_sub-result c = less_fits64 _ c.if-x-lt2147483648.false c.ranges.x

pub overflow_cast-result-else-x-lt2147483648-2 : goal.overflow_cast-result-else-x-lt2147483648-2
overflow_cast-result-else-x-lt2147483648-2 c = rw (to_z-of_z (less_fits64 _ c.if-x-lt2147483648.false c.ranges.x)) (less_fits32 _ c.if-x-lt2147483648.false c.ranges.x)

pub returns-then-x-lt2147483648 : goal.returns-then-x-lt2147483648
unfolding signed
returns-then-x-lt2147483648 c = refl

pub returns-else-x-lt2147483648 : goal.returns-else-x-lt2147483648
returns-else-x-lt2147483648 c =
    let f = less_fits64 _ c.if-x-lt2147483648.false c.ranges.x in
    let e = less_fits32 _ c.if-x-lt2147483648.false c.ranges.x in
    rw (to_z-of_z f, to_z-of_z e) (less _ c.if-x-lt2147483648.false c.ranges.x)
