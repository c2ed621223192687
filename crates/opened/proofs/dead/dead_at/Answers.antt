-- By the arcs that are found for the mode.
use mathlib.Core.Path.{◌∙◌, ap}
use Rattle.second_form.specs.Dead.{is_dead}
use Rattle.sheets.specs.Decoded.{net_of}
use Rattle.opened.proofs.dead.dead_at.Goals as goal

pub returns : goal.returns
returns c = c.dead_by.ensures ∙ ap (is_dead (net_of c.args.net.now.sheet.now)) c.find_arcs.ensures.mode
