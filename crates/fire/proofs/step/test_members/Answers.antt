-- What the sums give is what the step gives.
use mathlib.Core.Path.{◌∙◌, ap}
use native.Mathlib.Omega.{arith}
use Rattle.model.specs.Refusals.{answer}
use Rattle.opened.proofs.Shapes.{sizes}
use Rattle.fire.proofs.step.Summing.{sums_none, tabled, sums-below, sums-refusal}
use Rattle.fire.proofs.step.test_members.Goals as goal

pub invariant_of-sums : goal.invariant_of-sums
invariant_of-sums c = record { is_tabled = tabled }

pub sum_members-requires : goal.sum_members-requires
sum_members-requires c = record { members = c.requires.members; sums_are = sums_none (omega (arith, sizes c.args.net.now.is_open)) }

pub find_refusal-requires : goal.find_refusal-requires
find_refusal-requires c = record { marking = c.requires.marking; below = sums-below c.args.modes.now 64 (sizes c.args.net.now.is_open).well_formed c.requires.members.few c.sum_members.ensures }

pub returns : goal.returns
returns c =
    c.find_refusal.ensures ∙ ap answer (sums-refusal c.args.modes.now c.sum_members.ensures c.args.marking.now)
