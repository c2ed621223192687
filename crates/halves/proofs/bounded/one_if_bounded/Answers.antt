-- 1 where K is finite.
use mathlib.Core.Path.{◌≡◌, refl, ◌∙◌, ap}
use mathlib.Core.Bool.{Bool, true, false, cond}
use native.Mathlib.Omega.{arith}
use Rattle.std.specs.Int.{from_bool}
use Rattle.second_form.specs.Complement.{finite}
use Rattle.opened.proofs.Shapes.{sizes}
use Rattle.halves.proofs.bounded.one_if_bounded.Goals as goal

from-is : (b : Bool) → from_bool b ≡ cond b 1 0
from-is true = refl
from-is false = refl

pub overflow_cast-p : goal.overflow_cast-p
overflow_cast-p c = let z = sizes c.args.net.now.is_open in omega (arith, z.pairs_within)

pub returns : goal.returns
returns c = let one = c.from.ensures ∙ from-is _ ∙ ap (λ b. cond b 1 0) (c.is_finite.ensures ∙ ap finite c.capacity.ensures) in omega (arith, one)
