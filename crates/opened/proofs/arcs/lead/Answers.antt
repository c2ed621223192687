-- By the version.
use mathlib.Core.Path.{sym, ap}
use native.Mathlib.Omega.{arith}
use Rattle.opened.specs.Shape.{lead_of}
use Rattle.opened.proofs.arcs.lead.Goals as goal

pub returns-in-Two : goal.returns-in-Two
returns-in-Two c =
    let t = c.args.mode.0 in
    (ap (λ v. lead_of v t) (sym c.in-Two.is), omega (arith, c.requires))
