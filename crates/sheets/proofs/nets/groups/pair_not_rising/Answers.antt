-- The first arc of a mode has none before it.
use borrow.Author.Tests.{lt-ltb, le-ltb, eq-eqb}
use native.Mathlib.Omega.{arith}
use Rattle.sheets.specs.nets.Groups.{pair_not_rising}
use Rattle.sheets.proofs.nets.groups.pair_not_rising.Goals as goal

pub returns-else-i-ne0 : goal.returns-else-i-ne0
unfolding pair_not_rising
returns-else-i-ne0 c = simp (le-ltb 0 c.args.i (omega arith), eq-eqb c.args.i 0 (omega arith))

pub returns-then-i-ne0 : goal.returns-then-i-ne0
unfolding pair_not_rising
returns-then-i-ne0 c =
    simp (lt-ltb 0 c.args.i (omega arith), c.u16_at.ensures.0, c.u16_at-then-i-ne0.ensures.0)
