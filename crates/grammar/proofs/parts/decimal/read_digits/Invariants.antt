-- The digits so far are those of the value.
use Rattle.grammar.proofs.parts.Prefixes.{SoFar}
use Rattle.grammar.proofs.parts.decimal.read_digits.Given as goal

abbrev pub invariant-loop-end : goal.invariant-loop-end
invariant-loop-end l = SoFar l.low l.s l.at l.value l.end
