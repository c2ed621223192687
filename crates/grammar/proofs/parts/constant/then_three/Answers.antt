-- Three digits are a constant.
use Rattle.pnml.specs.Pnml.{three}
use Rattle.grammar.proofs.parts.constant.then_three.Goals as goal

pub returns : goal.returns
unfolding three
returns c = c.then_bytes.ensures
