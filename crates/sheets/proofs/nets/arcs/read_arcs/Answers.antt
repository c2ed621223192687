use borrow.Author.Rules.{rules}
use Rattle.model.specs.First.{first}
use Rattle.model.proofs.Refusals.{answer-first-end}
use Rattle.model.proofs.Asking.{first_goes_on, first_stops}
use Rattle.sheets.proofs.nets.arcs.read_arcs.Goals as goal

pub loop-k-init : goal.loop-k-init
unfolding first
loop-k-init c = search rules

pub returns-in_err-read_arc : goal.returns-in_err-read_arc
returns-in_err-read_arc c =
    let l = c.loop-k in
    first_stops _ l.k _ c.loop-k-test.true l.invariant c.in_err-read_arc.ensures c.from_residual.ensures

pub loop-k-preserved : goal.loop-k-preserved
loop-k-preserved c =
    first_goes_on _ _ c.loop-k.invariant c.in_ok-read_arc.ensures

pub returns : goal.returns
returns c = answer-first-end _ _ _ c.loop-k.auto.k-end c.loop-k-test.false c.loop-k.invariant
