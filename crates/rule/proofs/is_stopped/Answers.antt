-- Each arm compares what its reason compares.
use native.Mathlib.Omega.{arith}
use Rattle.rule.proofs.FourTests.{above-small}
use Rattle.rule.proofs.is_stopped.Goals as goal

pub returns-in-Lacking : goal.returns-in-Lacking
returns-in-Lacking c = rw c.in-Lacking.is

pub returns-in-OverCapacity : goal.returns-in-OverCapacity
returns-in-OverCapacity c = rw (c.in-OverCapacity.is, ← c.with_post.ensures) c.above_bound.ensures

pub returns-in-Inhibited : goal.returns-in-Inhibited
returns-in-Inhibited c = rw c.in-Inhibited.is (above-small _ _ (omega arith))

pub returns-in-OverLimit : goal.returns-in-OverLimit
returns-in-OverLimit c = rw (c.in-OverLimit.is, c.moved.ensures)
