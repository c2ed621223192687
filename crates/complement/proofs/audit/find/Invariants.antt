-- No pair below p is out of step.
use Rattle.sheets.specs.Decoded.{net_of}
use Rattle.complement.proofs.audit.Searches.{InStepBelow}
use Rattle.complement.proofs.audit.find.Given as goal

abbrev pub invariant-loop-p : goal.invariant-loop-p
invariant-loop-p l = InStepBelow (net_of l.bounded.net.now.sheet.now) l.marking l.beside l.p
