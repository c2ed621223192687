-- The mode's count is in the sheet.
use mathlib.Core.Path.{ap}
use Prim.Native.Nat.{◌+◌}
use native.Mathlib.Omega.{arith}
use Rattle.opened.proofs.Versions.{group_there, group_small, group_next}
use Rattle.opened.proofs.groups.group_end.Goals as goal

pub returns : goal.returns
returns c =
    group_next c.requires.before c.requires.t_bound (ap (λ n. c.args.k + n) c.count_at.ensures.0)

pub overflow_mul-t : goal.overflow_mul-t
overflow_mul-t c = let pre = c.requires in omega (arith, group_there pre.before pre.t_bound)

pub overflow_add-base : goal.overflow_add-base
overflow_add-base c = let pre = c.requires in omega (arith, group_there pre.before pre.t_bound)

pub overflow_mul-k : goal.overflow_mul-k
overflow_mul-k c = let pre = c.requires in omega (arith, group_there pre.before pre.t_bound)

pub overflow_add-base-2 : goal.overflow_add-base-2
overflow_add-base-2 c = let pre = c.requires in omega (arith, group_there pre.before pre.t_bound)

pub count_at-requires : goal.count_at-requires
count_at-requires c = let pre = c.requires in group_there pre.before pre.t_bound

pub overflow_add-result : goal.overflow_add-result
overflow_add-result c = let pre = c.requires in omega (arith, group_small pre.before pre.t_bound, c.count_at.ensures.0)
