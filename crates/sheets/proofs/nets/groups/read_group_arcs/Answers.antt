use borrow.Author.Rules.{rules}
use Rattle.model.specs.First.{first}
use Rattle.model.proofs.Refusals.{answer-first-end}
use Rattle.model.proofs.Asking.{first_goes_on, first_stops}
use Rattle.sheets.proofs.nets.groups.read_group_arcs.Goals as goal

pub loop-i-init : goal.loop-i-init
unfolding first
loop-i-init c = search rules

pub returns-in_err-read_group_arc : goal.returns-in_err-read_group_arc
returns-in_err-read_group_arc c =
    let l = c.loop-i in
    first_stops _ l.i _ c.loop-i-test.true l.invariant c.in_err-read_group_arc.ensures c.from_residual.ensures

pub loop-i-preserved : goal.loop-i-preserved
loop-i-preserved c =
    first_goes_on _ _ c.loop-i.invariant c.in_ok-read_group_arc.ensures

pub returns : goal.returns
returns c = answer-first-end _ _ _ c.loop-i.auto.i-end c.loop-i-test.false c.loop-i.invariant
