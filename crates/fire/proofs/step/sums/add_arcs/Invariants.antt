-- The arcs before i have been added.
use Prim.Native.Nat.{◌+◌, ◌≤◌, ◌-◌}
use Rattle.model.specs.Nets.{arc_no}
use Rattle.sheets.specs.Decoded.{net_of}
use Rattle.fire.specs.step.Sums.{sums_at}
use Rattle.fire.proofs.step.Adding.{AddedArcs}
use Rattle.fire.proofs.step.sums.add_arcs.Given as goal

abbrev pub invariant-loop-i : goal.invariant-loop-i
invariant-loop-i l =
    AddedArcs (λ k. arc_no (net_of l.net.sheet.now).arcs (l.arcs.start + k)) l.i (sums_at l.initial.sums) (sums_at l.sums)
