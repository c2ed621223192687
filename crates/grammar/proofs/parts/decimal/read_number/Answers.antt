-- The digits, then the byte after them.
use native.Mathlib.Omega.{arith}
use Rattle.grammar.proofs.parts.Prefixes.{ended}
use Rattle.grammar.proofs.parts.decimal.read_number.Goals as goal

pub returns-then-end-at : goal.returns-then-end-at
returns-then-end-at c =
    let pre = c.requires in
    ended _ _ _ _ pre.1 pre.2 _ _ c.read_digits-value.ensures (λ l h e. let b = c.then-end-at.branch in grind (arith, b))
