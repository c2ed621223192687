-- The first arc has none before it.
use borrow.Author.Tests.{lt-ltb, le-ltb, eq-eqb}
use native.Mathlib.Omega.{arith}
use Rattle.sheets.specs.nets.Nets.{not_rising}
use Rattle.sheets.proofs.nets.Names.{names_rise}
use Rattle.sheets.proofs.nets.arcs.not_rising.Goals as goal

pub returns-else-k-ne0 : goal.returns-else-k-ne0
unfolding not_rising
returns-else-k-ne0 c = simp (le-ltb 0 c.args.k (omega arith), eq-eqb c.args.k 0 (omega arith))

pub returns-then-k-ne0 : goal.returns-then-k-ne0
unfolding not_rising
returns-then-k-ne0 c =
    simp (lt-ltb 0 c.args.k (omega arith)) (names_rise _ _ _ _ _ c.names_at.ensures c.requires.names_at)
