-- K of the pair is in range, and the rule is the net's.
use mathlib.Core.Path.{◌∙◌, ap₂}
use Rattle.model.specs.Firing.{room_for}
use Rattle.opened.proofs.Shapes.{shaped, sizes}
use Rattle.fire.proofs.firing.arcs.room_at.Goals as goal

pub room-requires : goal.room-requires
room-requires c =
    let pre = c.requires in
    let size = sizes c.args.net.now.is_open in
    record { capacity = rw c.capacity.ensures (size.well_formed.capacity_in_range _ (rw size.pairs at pre.pair_lt_pairs.0)); pre = pre.pair_lt_pairs.1 }

pub returns : goal.returns
returns c =
    c.room.ensures ∙ ap₂ (λ rule k. room_for rule k c.args.arc.pre) (shaped c.args.net.now.is_open).rule c.capacity.ensures
