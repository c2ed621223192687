-- 6, then the mode's own arcs.
use Rattle.model.specs.declared.Thing.TheVariants.{Argument}
use Rattle.opened.proofs.Modes.{open_there, open_missing}
use Rattle.opened.proofs.dead.mode_answer.Goals as goal

pub returns-then-net-mode : goal.returns-then-net-mode
returns-then-net-mode c =
    rw (open_missing c.args.net.now.is_open Argument c.args.mode c.if-net-mode.true)

pub returns : goal.returns
returns c = rw (open_there c.args.net.now.is_open Argument c.args.mode c.if-net-mode.false, c.dead_at.ensures)
