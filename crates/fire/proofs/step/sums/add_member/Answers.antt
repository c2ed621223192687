-- The arcs found are the mode's.
use Rattle.fire.proofs.step.sums.add_member.Goals as goal

pub arcs_of-requires : goal.arcs_of-requires
arcs_of-requires c =
    let pre = c.requires in
    record { starts_are = pre.starts_are; mode_lt_modes = pre.mode_lt_modes }

pub add_arcs-requires : goal.add_arcs-requires
add_arcs-requires c =
    let pre = c.requires in
    record { mode_arcs = c.arcs_of.ensures.own; below = pre.below }

pub returns : goal.returns
returns c = rw c.arcs_of.ensures.mode at c.add_arcs.ensures
