-- After the counts.
use native.Mathlib.Omega.{arith}
use Rattle.sheets.proofs.nets.net.pairs_at.Goals as goal

pub returns : goal.returns
returns c =
    let at = c.fields_at-at.ensures.0 in
    omega (arith, at, rw at at c.count_at.ensures.0, rw at at c.count_at-2.ensures.0)
