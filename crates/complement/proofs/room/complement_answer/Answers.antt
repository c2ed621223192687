-- 15, then 10; where the survey is clear, 10 alone.
use mathlib.Core.Path.{sym, ◌∙◌, ap}
use Rattle.model.specs.Refusals.{answer}
use Rattle.model.proofs.Asking.{stops, no_refusal}
use Rattle.complement.proofs.Answers.{clear_none, in_order_lem, only_room}
use Rattle.complement.proofs.room.complement_answer.Goals as goal
use Rattle.complement.proofs.room.complement_answer.Goals.{then-not-clear+in_ok-arcs_answer, else-not-clear}

pub returns-in_err-arcs_answer : goal.returns-in_err-arcs_answer
returns-in_err-arcs_answer c =
    stops _ _ c.in_err-arcs_answer.ensures c.from_residual.ensures ∙ ap answer (in_order_lem c.args.bounded.now.net.now.is_open _)

pub returns : goal.returns
returns c =
    only_room c.args.bounded.now.net.now.is_open _
    (elim c.if-not-clear.branch [
      | then-not-clear+in_ok-arcs_answer w ↦ no_refusal _ w.in_ok-arcs_answer.ensures
      | else-not-clear w ↦ clear_none c.args.bounded.now.net.now.sheet.now (sym c.requires.clear_value ∙ w.if-not-clear.false)
    ]) c.counted_answer.ensures
