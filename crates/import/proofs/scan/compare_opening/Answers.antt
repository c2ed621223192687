-- The constant.
use Rattle.pnml.specs.Pnml.{opening}
use Rattle.import.proofs.scan.compare_opening.Goals as goal

pub returns : goal.returns
unfolding opening
returns c = c.compare.ensures
