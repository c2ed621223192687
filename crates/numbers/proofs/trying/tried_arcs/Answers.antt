-- None where the mode is not there; or what the table says.
use Rattle.numbers.proofs.Tried.{tries_absent, tries_there}
use Rattle.numbers.proofs.trying.tried_arcs.Goals as goal

pub returns-then-net-mode : goal.returns-then-net-mode
returns-then-net-mode c = tries_absent c.args.net.now.is_open _ c.if-net-mode.true

pub returns : goal.returns
returns c = tries_there c.args.net.now.is_open _ c.if-net-mode.false c.arcs_of.ensures
