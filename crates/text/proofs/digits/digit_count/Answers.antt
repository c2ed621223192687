use native.Mathlib.Nat.{pow-suc}
use native.Mathlib.Omega.{arith}
use Rattle.text.proofs.Decimals.{length-at-most, length_above}
use Rattle.text.proofs.digits.digit_count.Goals as goal

pub returns : goal.returns
returns c =
    let l = c.loop-power in
    let n = c.args.n in
    omega (arith, pow-suc 10 l.after, length_above n l.after (omega arith), length-at-most n l.after (omega (arith, pow-suc 10 l.after)))
