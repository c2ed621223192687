-- The first k entries are right.
use mathlib.Core.Path.{◌≡◌}
use lib.ListN.{length}
use Rattle.text.specs.twos.Twos.{TwosAre}
use Rattle.text.proofs.twos.Twos.new.Given as goal

abbrev pub invariant-loop-k : goal.invariant-loop-k
invariant-loop-k l = (length l.digits ≡ 200) × TwosAre l.k l.digits
