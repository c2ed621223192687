use Rattle.opened.proofs.Shapes.{sizes}
use Rattle.opened.proofs.Segments.{first-of-all, first_found}
use Rattle.opened.proofs.starts.search_first.Goals as goal

pub loop-span-init : goal.loop-span-init
loop-span-init c = rw (sizes c.args.net.now.is_open).arcs (first-of-all _ _)

pub halve-span-requires : goal.halve-span-requires
halve-span-requires c = let pre = c.requires in record { version_value = pre.version_value; first_between = c.loop-span.invariant; low_lt_high = c.loop-span-test.true }

pub loop-span-smaller : goal.loop-span-smaller
loop-span-smaller c = c.halve-span.ensures.narrower

pub loop-span-preserved : goal.loop-span-preserved
loop-span-preserved c = c.halve-span.ensures.between

pub returns : goal.returns
returns c = first_found _ _ _ c.loop-span.invariant c.loop-span-test.false
