-- The arcs before the i-th are plain: none makes the mode dead, and each is clear.
use Prim.Native.Nat.{◌+◌}
use mathlib.Core.Path.{◌≡◌}
use mathlib.Core.Bool.{true}
use Rattle.second_form.proofs.Dead.{Passed}
use Rattle.sheets.specs.Decoded.{net_of}
use Rattle.complement.specs.sections.Arcs.{clear_at, every}
use Rattle.complement.proofs.sections.survey.all_plain.Given as goal

abbrev pub invariant-loop-i : goal.invariant-loop-i
invariant-loop-i l = Passed (net_of l.net.sheet.now) l.arcs.start (l.arcs.start + l.i) × (true ≡ every l.i (λ k. clear_at (net_of l.net.sheet.now) (l.arcs.start + k)))
