-- Unbounded stays; else the difference, or 0.
use native.Mathlib.Omega.{arith}
use Rattle.fields.proofs.Bounds.{bound-unbounded}
use Rattle.opened.proofs.dead.Bounds.{less_none, less-some}
use Rattle.opened.proofs.dead.less.Goals as goal

pub returns-then-capacity-eq4294967295 : goal.returns-then-capacity-eq4294967295
returns-then-capacity-eq4294967295 c = rw (bound-unbounded _ c.if-capacity-eq4294967295.true)

pub returns-then-capacity-post : goal.returns-then-capacity-post
returns-then-capacity-post c = less_none _ _ c.if-capacity-eq4294967295.false c.if-capacity-post.true

pub returns : goal.returns
returns c = less-some _ _ c.if-capacity-eq4294967295.false (omega (arith, c.ranges.capacity))
