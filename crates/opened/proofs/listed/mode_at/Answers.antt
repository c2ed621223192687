-- The two bytes are there.
use mathlib.Core.Path.{ap}
use Rattle.model.specs.Nets.{mode_no}
use Rattle.sheets.specs.Listed.{mode_at}
use Rattle.opened.proofs.listed.mode_at.Goals as goal

pub returns : goal.returns
unfolding mode_at
returns c = ap mode_no c.u16_at.ensures.0
