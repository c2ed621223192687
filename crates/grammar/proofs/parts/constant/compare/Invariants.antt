-- Byte by byte.
use Rattle.pnml.specs.Agrees.{Agrees}
use Rattle.grammar.proofs.parts.constant.compare.Given as goal

abbrev pub invariant-loop-n : goal.invariant-loop-n
invariant-loop-n l = Agrees l.s l.at l.n l.c
