-- The digits written: those that are left, put before what is written, make the whole.
use mathlib.Core.Path.{◌≡◌}
use lib.ListN.{length}
use Rattle.text.specs.Decimals.{decimal}
use Rattle.writes.specs.Writes.{put_into}
use Rattle.text.proofs.LastDigits.{completed}
use Rattle.text.proofs.digits.write_digits.Given as goal

abbrev pub invariant-loop-left : goal.invariant-loop-left
invariant-loop-left l =
    (length l.out ≡ length l.initial.out)
    × (completed l.out l.at l.left l.rest ≡ put_into l.initial.out l.at (decimal l.n))
