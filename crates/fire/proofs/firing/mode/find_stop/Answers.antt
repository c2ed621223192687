use borrow.Author.Rules.{rules}
use mathlib.Core.Path.{sym, ◌∙◌, ap}
use Rattle.model.specs.First.{first}
use Rattle.model.specs.Refusals.{answer}
use Rattle.model.proofs.Refusals.{answer-first-end}
use Rattle.model.proofs.Asking.{first_goes_on, first_stops}
use Rattle.fire.proofs.firing.ByMode.{stop-by-arcs}
use Rattle.fire.proofs.firing.mode.find_stop.Goals as goal

pub loop-i-init : goal.loop-i-init
unfolding first
loop-i-init c = search rules

pub arc_stop-requires : goal.arc_stop-requires
arc_stop-requires c = let pre = c.requires in record { marking = pre.marking; own_arc = record { own = pre.own; there = c.loop-i-test.true } }

pub returns-in_err-arc_stop : goal.returns-in_err-arc_stop
returns-in_err-arc_stop c =
    let l = c.loop-i in
    λ t own.
    first_stops _ l.i _ c.loop-i-test.true l.invariant c.in_err-arc_stop.ensures c.from_residual.ensures
    ∙ ap answer (sym (stop-by-arcs c.requires t own _ _))

pub loop-i-preserved : goal.loop-i-preserved
loop-i-preserved c =
    first_goes_on _ _ c.loop-i.invariant c.in_ok-arc_stop.ensures

pub returns : goal.returns
returns c = λ t own.
    answer-first-end _ _ _ c.loop-i.auto.i-end c.loop-i-test.false c.loop-i.invariant
    ∙ ap answer (sym (stop-by-arcs c.requires t own _ _))
