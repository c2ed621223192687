-- One kind more, where none before stands.
use mathlib.Core.Path.{sym, ◌∙◌}
use Rattle.import.proofs.scan.Heads.{head-part}
use Rattle.import.proofs.scan.head.try_head.Goals as goal

pub returns-in-Err-compare_head : goal.returns-in-Err-compare_head
returns-in-Err-compare_head c = head-part c.in-Err.is (sym c.can_begin.ensures ∙ c.if-not-can_begin.false) c.in-Err-compare_head.ensures.how c.max.ensures
