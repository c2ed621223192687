-- The number of digits: `power` is 10 ^ `after`, and the decimal has more than `after` digits.
use Prim.Native.Nat.{◌-◌, ◌^◌, max, ◌≤◌, ◌<◌}
use mathlib.Core.Path.{◌≡◌}
use Rattle.text.proofs.digits.digit_count.Given as goal

abbrev pub invariant-loop-power : goal.invariant-loop-power
invariant-loop-power l = (l.power ≡ 10 ^ l.after) × (l.after < l.power) × (l.power ≤ max l.n 1)

abbrev pub decreases-loop-power : goal.decreases-loop-power
decreases-loop-power l = l.n - l.power
