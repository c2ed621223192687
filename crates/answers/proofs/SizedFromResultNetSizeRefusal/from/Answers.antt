-- The three numbers are told as they are.
use mathlib.Core.Path.{ap}
use native.Mathlib.Omega.{arith}
use Rattle.std.specs.Prelude.{Ok}
use Rattle.answers.specs.Told.{answered, sizing}
use Rattle.answers.proofs.SizedFromResultNetSizeRefusal.from.Goals as goal

pub returns-in-Ok : goal.returns-in-Ok
returns-in-Ok c =
    let size = c.in-Ok.size in
    rw (c.in-Ok.is, c.accepted.ensures) (ap (λ m. sizing (answered (Ok tt)) (record { pairs = size.pairs; modes = m; arcs = size.arcs })) (omega arith))
