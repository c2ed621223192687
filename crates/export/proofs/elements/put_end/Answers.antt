-- The words, then the place or the transition.
use native.Mathlib.Omega.{arith}
use Rattle.writes.proofs.Writing.{within, ◌and◌}
use Rattle.export.proofs.elements.put_end.Goals as goal

pub returns : goal.returns
returns c =
    let all = c.write_bytes-id.ensures and c.write_three.ensures in
    within all (omega (arith, all.within))
