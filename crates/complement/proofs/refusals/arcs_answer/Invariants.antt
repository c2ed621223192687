-- No arc of a mode below t is refused.
use Prim.Native.Nat.{ℕ}
use mathlib.Core.Path.{◌≡◌}
use mathlib.Core.Option.{none}
use Rattle.model.specs.First.{first}
use Rattle.sheets.specs.Decoded.{net_of}
use Rattle.opened.specs.Starts.{FirstFrom}
use Rattle.complement.specs.ArcRefusals.{inhibited_at}
use Rattle.complement.proofs.refusals.arcs_answer.Given as goal

abbrev pub invariant-loop-t : goal.invariant-loop-t
invariant-loop-t l = ((k : ℕ) → FirstFrom (net_of l.net.sheet.now).arcs l.t k → first k (inhibited_at l.net.sheet.now) ≡ none)
