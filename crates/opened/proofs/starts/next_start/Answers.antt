-- No arc before k has a later mode; in version 2 the count says how many have this one.
use native.Mathlib.Omega.{arith}
use Rattle.opened.proofs.Shapes.{shaped, sizes, group_before}
use Rattle.opened.proofs.Segments.{below_up}
use Rattle.opened.proofs.Versions.{before-first}
use Rattle.opened.proofs.starts.next_start.Goals as goal

pub first_from-requires : goal.first_from-requires
first_from-requires c = let pre = c.requires in
    let first = pre.first_from in record { version_value = c.in-One.is; k_le_arcs = omega (arith, (sizes c.args.net.now.is_open).arcs, first.inside); modes_below = below_up _ _ _ first.before }

pub group_end-requires : goal.group_end-requires
group_end-requires c = let pre = c.requires in record { before = group_before c.args.net.now.is_open c.in-Two.is (omega (arith, pre.t_lt_modes)) pre.first_from; t_bound = omega (arith, (shaped c.args.net.now.is_open).modes, pre.t_lt_modes) }

pub returns-in-Two : goal.returns-in-Two
returns-in-Two c =
    let pre = c.requires in
    before-first c.group_end.ensures (omega (arith, (shaped c.args.net.now.is_open).modes, pre.t_lt_modes))

pub overflow_add-t : goal.overflow_add-t
overflow_add-t c = omega (arith, sizes c.args.net.now.is_open, c.requires.t_lt_modes)
