-- k movements have been accepted, what is left from here is the whole run, and so many arcs have been visited.
use Rattle.sheets.specs.Decoded.{net_of}
use Rattle.progress.proofs.Along.{Along}
use Rattle.progress.proofs.count_accepted.Given as goal

abbrev pub invariant-loop-k : goal.invariant-loop-k
invariant-loop-k l = Along (net_of l.net.sheet.now) l.movements l.start l.count l.initial.marking l.k l.visited l.marking
