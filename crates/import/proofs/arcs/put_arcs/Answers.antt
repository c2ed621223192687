use native.Mathlib.Omega.{arith}
use Rattle.import.proofs.Loops.{arcs-start, line_ready, arcs-more, arcs-end, line-farther}
use Rattle.import.proofs.arcs.put_arcs.Goals as goal

pub loop-after-init : goal.loop-after-init
loop-after-init c = let pre = c.requires in arcs-start _ _ pre.export_of pre.arcs_follow

pub write_line-requires : goal.write_line-requires
write_line-requires c = let pre = c.requires in line_ready c.loop-after.invariant pre.export_of pre.arcs_in_bounds

pub loop-after-smaller : goal.loop-after-smaller
loop-after-smaller c = let x = line-farther c.in-Some.ensures.how.stands in omega (arith, x.0, x.1)

pub loop-after-preserved : goal.loop-after-preserved
loop-after-preserved c = arcs-more c.loop-after.invariant c.in-Some.ensures.how

pub returns : goal.returns
returns c = arcs-end c.loop-after.invariant c.in_default.ensures.how
