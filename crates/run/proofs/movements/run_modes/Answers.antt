-- The movement after those accepted is refused by the marking that they left; or there is none.
use Rattle.run.proofs.Running.{marking-left, reports-refused, reports-whole}
use Rattle.run.proofs.movements.run_modes.Goals as goal

pub refusal_of-answer-requires : goal.refusal_of-answer-requires
refusal_of-answer-requires c =
    let pre = c.requires in
    record {
      starts_are = pre.tables.starts_hold;
      marking = marking-left _ _ _ _ _ c.count_accepted-done.ensures pre.marking;
    }

pub returns-then-done-count : goal.returns-then-done-count
returns-then-done-count c =
    reports-refused _ _ _ _ _ c.count_accepted-done.ensures c.if-done-count.true c.mode_at.ensures c.refusal_of-answer.ensures

pub returns-else-done-count : goal.returns-else-done-count
returns-else-done-count c = reports-whole _ _ _ _ _ c.count_accepted-done.ensures c.if-done-count.false
