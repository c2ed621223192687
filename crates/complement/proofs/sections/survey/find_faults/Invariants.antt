-- Of the arcs before the i-th: whether each is clear, and whether one makes the mode dead.
use Prim.Native.Nat.{◌+◌}
use mathlib.Core.Path.{◌≡◌}
use Rattle.sheets.specs.Decoded.{net_of}
use Rattle.complement.specs.sections.Arcs.{clear_at, every}
use Rattle.complement.proofs.sections.Surveys.{Searched}
use Rattle.complement.proofs.sections.survey.find_faults.Given as goal

abbrev pub invariant-loop-i : goal.invariant-loop-i
invariant-loop-i l = (l.clear ≡ every l.i (λ k. clear_at (net_of l.net.sheet.now) (l.arcs.start + k))) × Searched (net_of l.net.sheet.now) l.arcs.mode l.arcs.start l.i l.dead
