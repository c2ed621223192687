-- No arc before i has a mode of at least t.
use Rattle.sheets.specs.Decoded.{net_of}
use Rattle.opened.specs.Starts.{ModesBelow}
use Rattle.opened.proofs.starts.first_from.Given as goal

abbrev pub invariant-loop-i : goal.invariant-loop-i
invariant-loop-i l = ModesBelow (net_of l.net.sheet.now).arcs l.t l.i
