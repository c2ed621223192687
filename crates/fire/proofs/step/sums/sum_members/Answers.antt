use borrow.Author.Rules.{rules}
use mathlib.Core.Path.{◌≡◌}
use lib.ListN.{length}
use native.Mathlib.Omega.{arith}
use Rattle.opened.proofs.Shapes.{sizes}
use Rattle.fire.proofs.step.Summing.{sums-more, sums-below}
use Rattle.fire.proofs.step.sums.sum_members.Goals as goal

pub loop-mode-init : goal.loop-mode-init
loop-mode-init c = c.requires.sums_are

pub add_member-requires : goal.add_member-requires
add_member-requires c = let l = c.loop-mode in
    let members = c.requires.members in record { starts_are = c.starts-starts.ensures; mode_lt_modes = members.each l.mode-index c.loop-mode-test.true; below = sums-below c.args.modes.now 63 (sizes c.args.net.now.is_open).well_formed (omega arith) l.invariant }

pub loop-mode-preserved : goal.loop-mode-preserved
loop-mode-preserved c =
    sums-more c.args.modes.now c.loop-mode-test.true c.loop-mode.invariant c.add_member.ensures

pub returns : goal.returns
returns c =
    let l = c.loop-mode in
    let e : l.mode-index ≡ length c.args.modes.now = omega arith in
    rw e at l.invariant
