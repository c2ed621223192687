-- Each table has the arc added at its pair.
use native.Mathlib.Omega.{arith}
use Rattle.fire.proofs.step.Adding.{still-tabled, arc-added}
use Rattle.fire.proofs.step.sums.add_arc.Goals as goal

pub invariant_of-sums : goal.invariant_of-sums
invariant_of-sums c =
    let a = c.args in
    record { is_tabled = still-tabled a.arc a.sums.now c.requires.addable.inside c.min.ensures (omega arith) }

pub returns : goal.returns
returns c =
    let a = c.args in
    arc-added a.arc a.sums.now c.requires.addable.inside c.min.ensures (omega arith)
