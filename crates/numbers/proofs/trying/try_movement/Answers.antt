-- Not there; or what firing the mode's arcs gives.
use borrow.Author.Tests.{le-ltb}
use Rattle.numbers.proofs.Tried.{tries_at, absent-makes, there-makes}
use Rattle.numbers.proofs.trying.try_movement.Goals as goal

pub returns-else-arcs-net : goal.returns-else-arcs-net
returns-else-arcs-net c = rw (le-ltb _ _ c.if-arcs-net.false) (absent-makes c.requires.numbered.opened c.args.arcs.mode c.if-arcs-net.false)

pub fire_within-requires : goal.fire_within-requires
fire_within-requires c =
    let pre = c.requires in
    record { numbered = pre.numbered; at_mode = tries_at pre.numbered.opened pre.tries pre.marking c.if-arcs-net.true }

pub returns-then-arcs-net : goal.returns-then-arcs-net
returns-then-arcs-net c =
    let pre = c.requires in
    let own = (tries_at pre.numbered.opened pre.tries pre.marking c.if-arcs-net.true).own in
    there-makes pre.numbered.opened _ c.if-arcs-net.true ((c.fire_within.ensures _ own).each _)
