-- No I of an arc of a mode below t is finite.
use Prim.Native.Nat.{ℕ}
use mathlib.Core.Path.{◌≡◌}
use mathlib.Core.Option.{none}
use Rattle.model.specs.First.{first}
use Rattle.sheets.specs.Decoded.{net_of}
use Rattle.opened.specs.Starts.{FirstFrom}
use Rattle.export.specs.Bounds.{inhibitor_refusal}
use Rattle.export.proofs.bounds.inhibitors_answer.Given as goal

abbrev pub invariant-loop-t : goal.invariant-loop-t
invariant-loop-t l = ((k : ℕ) → FirstFrom (net_of l.net.sheet.now).arcs l.t k → first k (inhibitor_refusal l.net.sheet.now) ≡ none)
