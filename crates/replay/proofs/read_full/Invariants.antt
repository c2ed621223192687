use Rattle.std.proofs.Common.{◌≤◌, length}
use Rattle.replay.proofs.read_full.Given as goal

-- what was read lies within the slice
abbrev pub invariant-loop : goal.invariant-loop
invariant-loop g l = l.done ≤ length l.into
