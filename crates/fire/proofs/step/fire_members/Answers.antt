-- Refused by the sums, and nothing is written; or the members have fired at once.
use native.Mathlib.Omega.{arith}
use Rattle.opened.proofs.Shapes.{sizes}
use Rattle.model.proofs.Asking.{handed_on}
use Rattle.fire.proofs.step.Summing.{sums_none, tabled, sums-below, sums-refused, sums-written}
use Rattle.fire.proofs.step.fire_members.Goals as goal

pub invariant_of-sums : goal.invariant_of-sums
invariant_of-sums c = record { is_tabled = tabled }

pub sum_members-requires : goal.sum_members-requires
sum_members-requires c = record { members = c.requires.members; sums_are = sums_none (omega (arith, sizes c.args.net.now.is_open)) }

pub find_refusal-requires : goal.find_refusal-requires
find_refusal-requires c = record { marking = c.requires.marking; below = sums-below c.args.modes.now 64 (sizes c.args.net.now.is_open).well_formed c.requires.members.few c.sum_members.ensures }

pub returns-in_err-find_refusal : goal.returns-in_err-find_refusal
returns-in_err-find_refusal c =
    let a = c.args in
    sums-refused a.modes.now c.sum_members.ensures a.marking.now c.in_err-find_refusal.ensures (handed_on c.from_residual.ensures)

pub write_pairs-requires : goal.write_pairs-requires
write_pairs-requires c = record { marking = c.requires.marking; below = sums-below c.args.modes.now 64 (sizes c.args.net.now.is_open).well_formed c.requires.members.few c.sum_members.ensures }

pub returns : goal.returns
returns c =
    let a = c.args in
    sums-written a.modes.now c.sum_members.ensures a.marking.now c.in_ok-find_refusal.ensures
    c.write_pairs.ensures
