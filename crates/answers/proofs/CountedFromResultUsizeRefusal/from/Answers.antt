-- The length is told as it is.
use mathlib.Core.Path.{ap}
use native.Mathlib.Omega.{arith}
use Rattle.model.specs.Replies.{yields}
use Rattle.answers.specs.Told.{counted}
use Rattle.answers.proofs.CountedFromResultUsizeRefusal.from.Goals as goal

pub returns-in-Ok : goal.returns-in-Ok
returns-in-Ok c = rw (c.in-Ok.is, c.accepted.ensures) (ap (λ v. counted (yields v)) (omega arith))
