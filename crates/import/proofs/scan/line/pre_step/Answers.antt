-- A Pre arc after its head.
use native.Mathlib.Omega.{arith}
use Rattle.grammar.proofs.HandedOn.{handed_on}
use Rattle.import.proofs.scan.LineKinds.{pre_bounds, pre-stands, pre-stops, step-not}
use Rattle.import.proofs.scan.line.pre_step.Goals as goal

pub overflow_sub-q : goal.overflow_sub-q
overflow_sub-q c = let pre = c.requires in (pre_bounds pre.1 pre.2).0

pub read_arc-requires : goal.read_arc-requires
read_arc-requires c =
    let pre = c.requires in
    let e = pre_bounds pre.1 pre.2 in
    (pre.0, omega (arith, pre.1.modes), omega (arith, e.1, c.up_to.ensures), omega (arith, e.2, c.up_to.ensures))

pub returns-in_err-pair : goal.returns-in_err-pair
returns-in_err-pair c =
    let y = c.in_err-pair.ensures.how in
    record { rest = λ at x. step-not (handed_on c.from_residual.ensures) (pre-stops c.requires.1 x (rw c.up_to.ensures at y)) }

pub returns : goal.returns
returns c =
    let y = c.in_ok-pair.ensures.how in
    record { rest = λ at x. record { how = pre-stands c.requires.1 x (rw c.up_to.ensures at y) } }
