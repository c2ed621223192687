-- The net's refusal, the movement sheet's, the marking's, or the run.
use mathlib.Core.Path.{sym}
use Rattle.model.proofs.Asking.{handed_on, no_refusal}
use Rattle.model.proofs.Refusals.{answer-refused}
use Rattle.model.proofs.First.{left-none, none_then}
use Rattle.movement.proofs.Markings.{marking-test}
use Rattle.sheets.specs.Whole.{whole_movements}
use Rattle.run.specs.Calls.{before_run}
use Rattle.run.proofs.Reporting.{begins-stops, begins-after, begins-refused, begins-run}
use Rattle.run.proofs.begin_run.Goals as goal

pub returns-in_err-net : goal.returns-in_err-net
unfolding before_run
returns-in_err-net c = begins-stops _ _ c.in_err-net.ensures (handed_on c.from_residual.ensures)

pub returns-in_err-whole_movements : goal.returns-in_err-whole_movements
unfolding before_run
returns-in_err-whole_movements c =
    begins-after _ _ c.in_ok-net.ensures.0
    (begins-stops _ _ (answer-refused _ (sym c.in_err-whole_movements.ensures)) (handed_on c.from_residual-in_err-whole_movements.ensures))

pub returns-in_err-marking_answer : goal.returns-in_err-marking_answer
unfolding before_run
returns-in_err-marking_answer c =
    begins-after _ _ c.in_ok-net.ensures.0
    (begins-after _ _ (no_refusal _ c.in_ok-whole_movements.ensures)
    (begins-refused _ (answer-refused _ (sym (rw c.in_ok-net.ensures.1 at c.in_err-marking_answer.ensures))) (handed_on c.from_residual-in_err-marking_answer.ensures)))

pub invariant_of-list : goal.invariant_of-list
unfolding whole_movements
invariant_of-list c = record { is_listed = left-none _ _ (no_refusal _ c.in_ok-whole_movements.ensures) }

pub run_sheet-requires : goal.run_sheet-requires
unfolding whole_movements
run_sheet-requires c =
    record {
      marking = (marking-test _ _).0 (no_refusal _ c.in_ok-marking_answer.ensures);
    }

pub returns : goal.returns
unfolding before_run
returns c =
    begins-run _
    (none_then c.in_ok-net.ensures.0
    (none_then (no_refusal _ c.in_ok-whole_movements.ensures) (no_refusal _ (rw c.in_ok-net.ensures.1 at c.in_ok-marking_answer.ensures))))
    (rw c.in_ok-net.ensures.1 at c.run_sheet.ensures)
