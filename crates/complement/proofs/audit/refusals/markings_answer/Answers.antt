-- 17 for the marking, then 17 for the complement's.
use Rattle.model.proofs.Refusals.{answer-passes, answer_fails, answer-last-passes, answer-last_fails}
use Rattle.opened.proofs.Shapes.{sizes}
use Rattle.complement.proofs.audit.OneEach.{same_length, other_length}
use Rattle.complement.proofs.audit.refusals.markings_answer.Goals as goal
use Rattle.complement.proofs.audit.refusals.markings_answer.Goals.{then-marking-bounded-via-then-marking-bounded, then-marking-bounded-via-else-marking-bounded+then-beside-pairs_beside}

pub returns-then-marking-bounded : goal.returns-then-marking-bounded
returns-then-marking-bounded c =
    let here = (sizes c.args.bounded.now.net.now.is_open).pairs in
    elim c.then-marking-bounded.branch [
      | then-marking-bounded-via-then-marking-bounded w ↦ answer_fails _ (other_length here w.if-marking-bounded.true) c.refused.ensures
      | then-marking-bounded-via-else-marking-bounded+then-beside-pairs_beside w ↦
          answer-passes _ _ (same_length here w.if-marking-bounded.false) (answer-last_fails (other_length w.pairs_beside.ensures w.if-beside-pairs_beside.true) c.refused.ensures)
    ]

pub returns : goal.returns
returns c =
    answer-passes _ _ (same_length (sizes c.args.bounded.now.net.now.is_open).pairs c.if-marking-bounded.false)
    (answer-last-passes _ (same_length c.pairs_beside.ensures c.if-beside-pairs_beside.false))
