-- The arc, its room and the count stand where the net has them.
use borrow.Author.Rules.{rules}
use native.Mathlib.Omega.{arith}
use Rattle.opened.proofs.Shapes.{sizes}
use Rattle.fire.proofs.firing.arcs.meet.Goals as goal

pub room_at-requires : goal.room_at-requires
room_at-requires c = record { pair_lt_pairs = (c.arc-arc.ensures.pair, omega (arith, c.arc-arc.ensures.pre)) }

pub bounds-marking-arc : goal.bounds-marking-arc
bounds-marking-arc c =
    let pre = c.requires in
    omega (arith, (sizes c.args.net.now.is_open).pairs)

pub returns : goal.returns
returns c =
    let arc = c.arc-arc.ensures in
    let pre = c.requires in
    let inside = rw (sizes c.args.net.now.is_open).pairs at arc.pair in
    record {
      arc = arc.is;
      inside = inside;
      capacity = c.room_at.ensures;
      count = search rules;
      post = arc.post;
      in_range = pre.marking.in_range _ inside;
    }
