-- By document 01's rule, then by the net's own.
use mathlib.Core.Path.{sym, ◌∙◌}
use Rattle.fields.specs.Numbers.{bound}
use Rattle.sheets.specs.Decoded.{net_of, net_arc}
use Rattle.opened.proofs.Shapes.{shaped}
use Rattle.opened.proofs.dead.Bounds.{spared}
use Rattle.opened.proofs.dead.kills.Goals as goal

pub returns-else-kills_by : goal.returns-else-kills_by
returns-else-kills_by c =
    let a = c.args in
    let most = c.capacity-most.result in
    c.if-kills_by.false
    ∙ rw (← c.capacity-most.ensures) (sym (spared (net_of a.net.now.sheet.now).rule (net_arc a.arc).entry (bound most) (sym c.kills_by.ensures ∙ c.if-kills_by.false)))

pub returns-then-kills_by : goal.returns-then-kills_by
returns-then-kills_by c =
    rw (← (shaped c.args.net.now.is_open).rule, ← c.capacity-most.ensures) c.kills_by-then-kills_by.ensures
