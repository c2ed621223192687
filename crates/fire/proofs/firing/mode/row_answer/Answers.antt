-- Free at each arc, or what is found.
use mathlib.Core.Path.{sym, ap}
use Rattle.model.specs.Refusals.{answer}
use Rattle.fire.proofs.firing.mode.row_answer.Goals as goal

pub returns-then-arcs_free : goal.returns-then-arcs_free
returns-then-arcs_free c = λ t own. ap answer (sym (((c.arcs_free.ensures t own).each _).0 c.if-arcs_free.true))
