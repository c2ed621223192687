-- The mode is a constant, the pair one of a range.
use native.Mathlib.Omega.{arith}
use Rattle.pnml.specs.Pnml.{three}
use Rattle.grammar.proofs.HandedOn.{handed_on}
use Rattle.grammar.proofs.parts.Literals.{◌and◌}
use Rattle.grammar.proofs.parts.Joints.{const_part}
use Rattle.grammar.proofs.parts.Values.{reads-stop, const_reads}
use Rattle.import.proofs.scan.arc.read_pair.Goals as goal

pub returns-in_err-next : goal.returns-in_err-next
returns-in_err-next c =
    let pre = c.requires in
    let w = c.then_three-number.ensures.how pre.0 and c.in_err-next.ensures in
    reads-stop (handed_on c.from_residual.ensures) (const_part three _ w.how _ (omega arith, pre.2))

pub returns : goal.returns
returns c =
    let w = c.then_three-number.ensures.how c.requires.0 and c.in_ok-next.ensures in
    const_reads _ _ w.how c.read_three.ensures
