-- Refused, and nothing is written; or free at each arc, and the mode has fired.
use Rattle.fire.proofs.firing.ByMode.{decides_not, decides_so}
use Rattle.fire.proofs.firing.mode.fire_arcs.Goals as goal

pub returns-then-not-arcs_free : goal.returns-then-not-arcs_free
returns-then-not-arcs_free c = λ t own.
    decides_not (c.arcs_free.ensures t own) _ c.if-not-arcs_free.true (c.find_refusal.ensures t own)

pub returns : goal.returns
returns c = λ t own.
    decides_so (c.arcs_free.ensures t own) _ c.if-not-arcs_free.false (c.write_arcs.ensures t own)
