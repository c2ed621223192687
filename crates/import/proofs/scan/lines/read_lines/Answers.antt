use native.Mathlib.Omega.{arith}
use Rattle.grammar.proofs.HandedOn.{handed_on}
use Rattle.import.proofs.scan.Onward.{onward-start, onward-line, farther, all-stop, all_end, lines-not}
use Rattle.import.proofs.scan.lines.read_lines.Goals as goal

pub loop-after-init : goal.loop-after-init
loop-after-init c = onward-start _ _ c.requires

pub returns-in_err-after : goal.returns-in_err-after
returns-in_err-after c = lines-not (handed_on c.from_residual.ensures) (all-stop c.loop-after.invariant c.in_err-after.ensures.how)

pub returns-in_default : goal.returns-in_default
returns-in_default c = let x = c.in_ok-after.ensures.how in record { how = all_end c.loop-after.invariant (rw c.in_default.is at x) }

pub loop-after-smaller : goal.loop-after-smaller
loop-after-smaller c =
    let y = c.in_ok-after.ensures.how in
    let x = rw c.in-Some.is at y in
    omega (arith, farther c.loop-after.invariant x, (onward-line c.loop-after.invariant x).in_run)

pub loop-after-preserved : goal.loop-after-preserved
loop-after-preserved c = let x = c.in_ok-after.ensures.how in onward-line c.loop-after.invariant (rw c.in-Some.is at x)
