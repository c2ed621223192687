-- The last field of the arc's 14 bytes.
use mathlib.Core.Path.{◌∙◌, ap}
use Rattle.heads.specs.Layout.{tail_inhibitor_at}
use Rattle.opened.proofs.Segments.{own-there, own-mode}
use Rattle.opened.proofs.Versions.{inhibitor-there}
use Rattle.opened.proofs.arcs.inhibitor_offset.Goals as goal

pub returns : goal.returns
returns c =
    let pre = c.requires in
    ap tail_inhibitor_at c.tail_of.ensures.0 ∙ inhibitor-there _ c.args.net.now.is_open.accepted _ _ (own-there pre.own_arc) (own-mode pre.own_arc)
