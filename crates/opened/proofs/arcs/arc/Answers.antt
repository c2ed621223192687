-- The four fields of the arc's 14 bytes; its mode is the segment's.
use mathlib.Core.Path.{refl}
use native.Mathlib.Omega.{arith}
use Rattle.opened.proofs.Shapes.{fields_read, arc-small}
use Rattle.opened.proofs.Segments.{own-there, own-mode}
use Rattle.opened.proofs.arcs.arc.Goals as goal

pub small_at-requires : goal.small_at-requires
small_at-requires c = let e = c.tail_of-at.ensures in record { at_in_bounds = omega (arith, e.1); at_bound = rw e.0 (arc-small c.args.net.now.is_open _ _ (own-there c.requires.own_arc) (own-mode c.requires.own_arc)) }

pub returns : goal.returns
returns c =
    fields_read c.args.net.now.is_open _ _ (own-there c.requires.own_arc) (own-mode c.requires.own_arc) c.tail_of-at.ensures.0 refl
    c.small_at.ensures c.u32_at.ensures.0 c.u32_at-2.ensures.0 c.u32_at-3.ensures.0
