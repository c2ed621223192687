-- The loop has gone to 100.
use mathlib.Core.Path.{◌≡◌}
use native.Mathlib.Omega.{arith}
use Rattle.text.proofs.twos.Twos.new.Goals as goal

pub invariant_of-result : goal.invariant_of-result
invariant_of-result c =
    let e : c.loop-k.k ≡ 100 = omega arith in
    record { digits_are = rw e at c.loop-k.invariant.1 }
