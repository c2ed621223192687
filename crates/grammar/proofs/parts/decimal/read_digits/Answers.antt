use mathlib.Core.Path.{sym, ◌∙◌}
use Rattle.grammar.proofs.parts.Prefixes.{so_far_more}
use Rattle.grammar.proofs.parts.decimal.read_digits.Goals as goal

pub loop-end-preserved : goal.loop-end-preserved
loop-end-preserved c = so_far_more _ _ _ _ _ _ c.loop-end.invariant c.loop-end-test.true (sym c.in-Some.is ∙ c.next_value.ensures)
