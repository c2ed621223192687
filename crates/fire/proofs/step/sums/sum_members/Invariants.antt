-- The members before i have been added up.
use Prim.Native.Nat.{◌≤◌, ◌-◌}
use Rattle.sheets.specs.Decoded.{net_of}
use Rattle.fire.specs.step.Calls.{step_modes}
use Rattle.fire.specs.step.Sums.{sums_at, SumsAre}
use Rattle.fire.proofs.step.sums.sum_members.Given as goal

abbrev pub invariant-loop-mode : goal.invariant-loop-mode
invariant-loop-mode l = SumsAre (net_of l.net.sheet.now) (step_modes l.modes) l.mode-index (sums_at l.sums)
