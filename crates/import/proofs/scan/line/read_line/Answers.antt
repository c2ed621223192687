-- A head, and what follows it.
use Rattle.grammar.proofs.HandedOn.{handed_on}
use Rattle.import.proofs.scan.LineKinds.{no_head, step-not}
use Rattle.import.proofs.scan.line.read_line.Goals as goal

pub returns-in_err-kind : goal.returns-in_err-kind
returns-in_err-kind c = let pre = c.requires in step-not (handed_on c.from_residual.ensures) (no_head pre.1 pre.0 c.in_err-kind.ensures.how)

pub returns : goal.returns
returns c = c.read_rest.ensures.rest _ c.in_ok-kind.ensures.how
