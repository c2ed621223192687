-- The arcs passed are put.
use Prim.Native.Nat.{◌+◌}
use Rattle.model.specs.Lists.{joined}
use Rattle.sheets.specs.Decoded.{net_of}
use Rattle.sheets.specs.written.Puts.{Puts}
use Rattle.export.specs.texts.Parts.{arc_no_text}
use Rattle.export.proofs.texts.puts.put_arcs.Given as goal

abbrev pub invariant-loop-i : goal.invariant-loop-i
invariant-loop-i l = Puts l.initial.out l.at (joined l.i (λ k. arc_no_text (net_of l.net.sheet.now) (l.arcs.start + k))) l.out l.next
