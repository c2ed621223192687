use borrow.Author.Rules.{rules}
use mathlib.Core.Path.{◌≡◌}
use native.Mathlib.Omega.{arith}
use Rattle.sheets.proofs.nets.GroupsRead.{before-none}
use Rattle.opened.proofs.groups.arcs_before.Goals as goal

pub loop-t-init : goal.loop-t-init
loop-t-init c =
    let pre = c.requires in
    record { accepted = pre.s_value; version = pre.s_value_2; place = pre.base_value.0; many = before-none _ _ }

pub group_end-k-requires : goal.group_end-k-requires
group_end-k-requires c = let l = c.loop-t in record { before = l.invariant; t_bound = omega (arith, c.requires.base_value.1) }

pub returns : goal.returns
returns c =
    let l = c.loop-t in
    let e : l.t ≡ c.args.n = omega (arith, l.auto.t-end, c.loop-t-test.false) in
    rw e at l.invariant

pub loop-t-preserved : goal.loop-t-preserved
loop-t-preserved c = c.group_end-k.ensures
